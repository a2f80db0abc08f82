use Rattle.std.proofs.Common.{◌≡◌, ◌+◌, ℕ, List, true, sym, ap, ◌∙◌, subst, arith, drop, take, length, length-append, length-drop, get_or, ◌-◌, ◌<◌}
use Rattle.std.specs.Prelude.{Some, None, codes}
use Rattle.st_values.specs.Words.{begins_with}
use Rattle.st_tokens.specs.Scanning.{seen, comment_at, token_at}
use Rattle.st_tokens.proofs.Reading.{Reads, reads_end, blank_step, comment_step, open_comment, token_step, stuck, shorter_comment, shorter_token, line_end-bound, line_end-is, blank_within, nothing}
use Rattle.st_tokens.proofs.Runs.{take_rest}
use Rattle.st_tokens.proofs.scan.scan.Goals.{In-Some}
use Rattle.st_tokens.proofs.scan.scan.Goals as goal

pub loop-rest-preserved-then-is_blank : goal.loop-rest-preserved-then-is_blank
loop-rest-preserved-then-is_blank c =
    let rest = c.loop-rest.rest.now in
    let shorter : length (take (length rest - 1) (drop 1 rest)) ≡ length rest - 1 = ap length (take_rest 1 rest) ∙ length-drop 1 rest in
    record {
      lines = blank_within c.loop-rest.line c.from-line.result (length rest) _ _ shorter c.in-len1-up.len_at_least
          (rw c.from-line.ensures (line_end-bound (get_or rest 0 0))) c.loop-rest.invariant.lines;
      count = omega (arith, shorter, c.loop-rest.invariant.count);
      reads = subst (λ zs. Reads c.args.text.now c.loop-rest.found.items (c.loop-rest.line + c.from-line.result) zs) (sym (take_rest 1 rest))
          (blank_step c.args.text.now rest c.loop-rest.found.items c.loop-rest.line (c.loop-rest.line + c.from-line.result) c.in-len1-up.len_at_least
          c.loop-rest.invariant.reads (sym c.is_blank.ensures ∙ c.if-is_blank.true)
          (ap (λ (n : ℕ). c.loop-rest.line + n) (c.from-line.ensures ∙ line_end-is (get_or rest 0 0))));
    }

pub returns-in_default-comment_at-clause-fault : goal.returns-in_default-comment_at-clause-fault
returns-in_default-comment_at-clause-fault c =
    let mark = sym c.starts_with.ensures.value ∙ c.if-starts_with.true in
    let none : comment_at c.loop-rest.line (drop 2 c.loop-rest.rest.now) ≡ None =
    subst (λ zs. comment_at c.loop-rest.line zs ≡ None) (take_rest 2 c.loop-rest.rest.now) (sym c.comment_at.ensures ∙ ap seen c.in_default-comment_at.is) in
    open_comment c.args.text.now c.loop-rest.rest.now c.loop-rest.found.items c.loop-rest.line c.loop-rest.invariant.reads mark none

-- what a comment that ends tells
record AfterComment (line next : ℕ) (rest remaining : List ℕ) : Type 0 where
  pub mark : begins_with (codes "(*") rest ≡ true
  pub found : comment_at line (drop 2 rest) ≡ Some (next, remaining)
  pub shorter : (next + length remaining < line + length rest) × (length remaining < length rest)

after_comment : (c : In-Some) → AfterComment c.loop-rest.line c.in-Some.next c.loop-rest.rest.now c.in-Some.remaining.now
after_comment c =
    let mark = sym c.starts_with.ensures.value ∙ c.if-starts_with.true in
    let found : comment_at c.loop-rest.line (drop 2 c.loop-rest.rest.now) ≡ Some (c.in-Some.next, c.in-Some.remaining.now) =
    subst (λ zs. comment_at c.loop-rest.line zs ≡ Some (c.in-Some.next, c.in-Some.remaining.now)) (take_rest 2 c.loop-rest.rest.now)
    (sym c.comment_at.ensures ∙ ap seen c.in-Some.is) in
    record { mark = mark; found = found; shorter = shorter_comment c.loop-rest.line c.in-Some.next c.loop-rest.rest.now c.in-Some.remaining.now mark found }

pub loop-rest-smaller-then-starts_with : goal.loop-rest-smaller-then-starts_with
loop-rest-smaller-then-starts_with c = (after_comment c).shorter.1

pub loop-rest-preserved-then-starts_with : goal.loop-rest-preserved-then-starts_with
loop-rest-preserved-then-starts_with c =
    let a = after_comment c in let b = a.shorter.0 in
    record {
      lines = omega arith;
      count = omega (arith, a.shorter.1, c.loop-rest.invariant.count);
      reads = comment_step c.args.text.now c.loop-rest.rest.now c.in-Some.remaining.now c.loop-rest.found.items c.loop-rest.line c.in-Some.next
          c.loop-rest.invariant.reads a.mark a.found;
    }

pub returns-in_default-token_at-clause-fault : goal.returns-in_default-token_at-clause-fault
returns-in_default-token_at-clause-fault c =
    stuck c.args.text.now c.loop-rest.rest.now c.loop-rest.found.items c.loop-rest.line c.in-len1-up.len_at_least c.loop-rest.invariant.reads
    (sym c.is_blank.ensures ∙ c.if-is_blank.false) (sym c.starts_with.ensures.value ∙ c.if-starts_with.false)
    (sym c.token_at.ensures ∙ ap seen c.in_default-token_at.is)

pub loop-rest-smaller : goal.loop-rest-smaller
loop-rest-smaller c = shorter_token c.loop-rest.rest.now c.in-Some-token_at.remaining.now c.in-Some-token_at.kind (sym c.token_at.ensures ∙ ap seen c.in-Some-token_at.is)

pub loop-rest-preserved : goal.loop-rest-preserved
loop-rest-preserved c =
    let found : token_at c.loop-rest.rest.now ≡ Some (c.in-Some-token_at.kind, c.in-Some-token_at.remaining.now) = sym c.token_at.ensures ∙ ap seen c.in-Some-token_at.is in
    let shorter = shorter_token c.loop-rest.rest.now c.in-Some-token_at.remaining.now c.in-Some-token_at.kind found in
    record {
      lines = omega arith;
      count = omega (arith, shorter, ap length c.in_ok-push.ensures.items ∙ length-append c.loop-rest.found.items _, c.loop-rest.invariant.count);
      reads = subst (λ ts. Reads c.args.text.now ts c.loop-rest.line c.in-Some-token_at.remaining.now) (sym c.in_ok-push.ensures.items)
          (token_step c.args.text.now c.loop-rest.rest.now c.in-Some-token_at.remaining.now c.loop-rest.found.items c.loop-rest.line c.in-Some-token_at.kind
          c.in-len1-up.len_at_least c.loop-rest.invariant.reads (sym c.is_blank.ensures ∙ c.if-is_blank.false)
          (sym c.starts_with.ensures.value ∙ c.if-starts_with.false) found);
    }

pub returns-clause-found : goal.returns-clause-found
returns-clause-found c = reads_end c.args.text.now c.loop-rest.found.items c.loop-rest.line
    (subst (λ zs. Reads c.args.text.now c.loop-rest.found.items c.loop-rest.line zs) (nothing c.loop-rest.rest.now c.in_default.len_below) c.loop-rest.invariant.reads)
