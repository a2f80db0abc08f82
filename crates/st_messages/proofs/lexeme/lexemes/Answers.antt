use Rattle.std.proofs.Common.{◌≡◌, ℕ, ◌-◌, ◌<◌, ◌≤◌, List, [], ◌∷◌, ◌++◌, length, take, drop, sym, ap, ◌∙◌, subst, arith, length-drop}
use Rattle.std.proofs.lemmas.Grind.{common_steps}
use Rattle.std.proofs.lemmas.List.Elements.{All-push}
use Rattle.std.specs.List.{All}
use Rattle.std.specs.Prelude.{Some, None}
use Rattle.st_tokens.proofs.Reading.{nothing}
use Rattle.st_tokens.proofs.Runs.{take_rest}
use Rattle.st_messages.specs.Lexemes.{ArePieces, IsWithin, lexeme}
use Rattle.st_messages.specs.Skips.{after_comment, after_token, seen}
use Rattle.st_messages.proofs.Lexing.{Finds, Sees, finds_all, finds_blank, finds_comment, finds_open, finds_token, sees_blank, sees_comment, sees_end, sees_open, sees_start, sees_token}
use Rattle.st_messages.proofs.Skips.{comment_shorter, token_shorter}
use Rattle.st_messages.proofs.lexeme.lexemes.Goals.{In-Some}
use Rattle.st_messages.proofs.lexeme.lexemes.Goals as goal

pub loop-rest-init : goal.loop-rest-init
loop-rest-init c = record {
  less = omega arith;
  within = grind (arith, common_steps);
  finds = subst (λ ls. Finds c.args.text.now ls c.args.text.now) (sym c.new-found.ensures.items) (λ ls d. d);
  sees = λ ts d. subst (λ ls. Sees c.args.text.now ls c.args.text.now) (sym c.new-found.ensures.items) (sees_start c.args.text.now);
}

pub loop-rest-preserved-then-is_blank : goal.loop-rest-preserved-then-is_blank
loop-rest-preserved-then-is_blank c =
    let rest = c.loop-rest.rest.now in
    let shorter : length (take (length rest - 1) (drop 1 rest)) ≡ length rest - 1 = ap length (take_rest 1 rest) ∙ length-drop 1 rest in record {
      less = omega (arith, shorter, c.loop-rest.invariant.less);
      within = c.loop-rest.invariant.within;
      finds = subst (Finds c.args.text.now c.loop-rest.found.items) (sym (take_rest 1 rest)) (finds_blank c.args.text.now rest c.loop-rest.found.items
          c.loop-rest.invariant.finds c.in-len1-up.len_at_least (sym c.is_blank.ensures ∙ c.if-is_blank.true));
      sees = λ ts d. subst (λ zs. Sees c.args.text.now c.loop-rest.found.items zs) (sym (take_rest 1 rest))
          (sees_blank c.args.text.now rest c.loop-rest.found.items (c.loop-rest.invariant.sees ts d) c.in-len1-up.len_at_least (sym c.is_blank.ensures ∙ c.if-is_blank.true));
    }

pub returns-in_default-after_comment-clause-tokens : goal.returns-in_default-after_comment-clause-tokens
returns-in_default-after_comment-clause-tokens c = λ ts d.
    let rest = c.loop-rest.rest.now in
    let none : after_comment (drop 2 rest) ≡ None = subst (λ zs. after_comment zs ≡ None) (take_rest 2 rest) (sym c.after_comment.ensures ∙ ap seen c.in_default-after_comment.is) in
    absurd (sees_open c.args.text.now rest c.loop-rest.found.items (c.loop-rest.invariant.sees ts d) (sym c.starts_with.ensures.value ∙ c.if-starts_with.true) none ts d)

pub returns-in_default-after_comment-clause-pieces : goal.returns-in_default-after_comment-clause-pieces
returns-in_default-after_comment-clause-pieces c =
    let rest = c.loop-rest.rest.now in
    let none : after_comment (drop 2 rest) ≡ None = subst (λ zs. after_comment zs ≡ None) (take_rest 2 rest) (sym c.after_comment.ensures ∙ ap seen c.in_default-after_comment.is) in
    subst (ArePieces c.args.text.now) (sym c.in_ok-push.ensures.items)
    (subst (λ l. ArePieces c.args.text.now (c.loop-rest.found.items ++ l ∷ [])) (sym c.between.ensures)
    (finds_open c.args.text.now rest c.loop-rest.found.items c.loop-rest.invariant.finds (sym c.starts_with.ensures.value ∙ c.if-starts_with.true) none))

-- what a comment that ends tells
after_found : (c : In-Some) → after_comment (drop 2 c.loop-rest.rest.now) ≡ Some c.in-Some.remaining.now
after_found c = subst (λ zs. after_comment zs ≡ Some c.in-Some.remaining.now) (take_rest 2 c.loop-rest.rest.now) (sym c.after_comment.ensures ∙ ap seen c.in-Some.is)

less_behind : (c : In-Some) → length c.in-Some.remaining.now < length c.loop-rest.rest.now
less_behind c = omega (arith, comment_shorter (drop 2 c.loop-rest.rest.now) c.in-Some.remaining.now (after_found c), length-drop 2 c.loop-rest.rest.now)

pub loop-rest-smaller-then-starts_with : goal.loop-rest-smaller-then-starts_with
loop-rest-smaller-then-starts_with c = less_behind c

pub loop-rest-preserved-then-starts_with : goal.loop-rest-preserved-then-starts_with
loop-rest-preserved-then-starts_with c = record {
  less = omega (arith, less_behind c, c.loop-rest.invariant.less);
  within = c.loop-rest.invariant.within;
  finds = finds_comment c.args.text.now c.loop-rest.rest.now c.loop-rest.found.items c.loop-rest.invariant.finds c.in-Some.remaining.now
      (sym c.starts_with.ensures.value ∙ c.if-starts_with.true) (after_found c);
  sees = λ ts d. sees_comment c.args.text.now c.loop-rest.rest.now c.loop-rest.found.items (c.loop-rest.invariant.sees ts d) c.in-Some.remaining.now
      (sym c.starts_with.ensures.value ∙ c.if-starts_with.true) (after_found c);
}

less_token : (rest behind : List ℕ) → 1 ≤ length rest → behind ≡ after_token rest → length behind < length rest
less_token rest behind h e = omega (arith, ap length e, token_shorter rest h)

pub between-requires-else-starts_with-clause-later : goal.between-requires-else-starts_with-clause-later
between-requires-else-starts_with-clause-later c =
    omega (arith, less_token c.loop-rest.rest.now c.after_token-remaining.result.now c.in-len1-up.len_at_least c.after_token-remaining.ensures, c.loop-rest.invariant.less)

pub loop-rest-smaller : goal.loop-rest-smaller
loop-rest-smaller c = less_token c.loop-rest.rest.now c.after_token-remaining.result.now c.in-len1-up.len_at_least c.after_token-remaining.ensures

pub loop-rest-preserved : goal.loop-rest-preserved
loop-rest-preserved c =
    let text = c.args.text.now in
    let rest = c.loop-rest.rest.now in
    let found = c.loop-rest.found.items in
    let behind = c.after_token-remaining.result.now in
    let less = less_token rest behind c.in-len1-up.len_at_least c.after_token-remaining.ensures in
    let pushed : c.push-else-starts_with.new.self.items ≡ found ++ c.between-else-starts_with.result ∷ [] = c.in_ok-push-2.ensures.items in record {
      less = omega (arith, less, c.loop-rest.invariant.less);
      within = subst (All (IsWithin text)) (sym pushed) (All-push (IsWithin text) found c.between-else-starts_with.result c.loop-rest.invariant.within
          (subst (IsWithin text) (sym c.between-else-starts_with.ensures) (omega (arith, less, c.loop-rest.invariant.less), omega arith)));
      finds = subst (λ ls. Finds text ls behind) (sym pushed)
          (subst (λ l. Finds text (found ++ l ∷ []) behind) (sym c.between-else-starts_with.ensures)
          (subst (λ zs. Finds text (found ++ lexeme (length text) rest zs ∷ []) zs) (sym c.after_token-remaining.ensures)
          (finds_token text rest found c.loop-rest.invariant.finds c.in-len1-up.len_at_least (sym c.is_blank.ensures ∙ c.if-is_blank.false)
          (sym c.starts_with.ensures.value ∙ c.if-starts_with.false))));
      sees = λ ts d. subst (λ ls. Sees text ls behind) (sym pushed)
          (subst (λ l. Sees text (found ++ l ∷ []) behind) (sym c.between-else-starts_with.ensures)
          (subst (λ zs. Sees text (found ++ lexeme (length text) rest zs ∷ []) zs) (sym c.after_token-remaining.ensures)
          (sees_token text rest found (c.loop-rest.invariant.sees ts d) c.in-len1-up.len_at_least (sym c.is_blank.ensures ∙ c.if-is_blank.false)
          (sym c.starts_with.ensures.value ∙ c.if-starts_with.false) ts d)));
    }

pub returns-clause-tokens : goal.returns-clause-tokens
returns-clause-tokens c = λ ts d. sees_end c.args.text.now c.loop-rest.found.items ts
    (subst (λ zs. Sees c.args.text.now c.loop-rest.found.items zs) (nothing c.loop-rest.rest.now c.in_default.len_below) (c.loop-rest.invariant.sees ts d)) d

pub returns-clause-pieces : goal.returns-clause-pieces
returns-clause-pieces c = finds_all c.args.text.now c.loop-rest.found.items
    (subst (Finds c.args.text.now c.loop-rest.found.items) (nothing c.loop-rest.rest.now c.in_default.len_below) c.loop-rest.invariant.finds)
