-- Where a text is told of whose tokens aren't in the grammar.
use Rattle.std.proofs.Common.{◌≡◌, ℕ, ◌+◌, ◌-◌, ◌≤◌, List, [], ◌∷◌, length, get_or, drop, suc, true, refl, sym, ap, ◌∙◌, subst, arith, inl, inr, drop-cons, length-drop, nat_eq}
use Rattle.std.specs.Prelude.{Option, Some, None, codes}
use Rattle.std.specs.List.{ends_with}
use Rattle.std.proofs.lemmas.Bool.{cases_lt}
use Rattle.std.proofs.lemmas.Slice.Eq.{bytes_eq-Decides}
use Rattle.st_parser.specs.Names.{Position}
use Rattle.st_parser.specs.Grammar.Faults.{line_or}
use Rattle.st_parser.specs.Reader.Parsers.{Refusal, Wrong, Deep, place_of}
use Rattle.st_tokens.proofs.Cases.{by_test}
use Rattle.st_messages.specs.Lexemes.{AreLexemes}
use Rattle.st_messages.specs.Places.{line_at}
use Rattle.st_messages.proofs.Lines.{line_more, no_feed}
use Rattle.st_syntax.specs.Stops.{IsLast, IsStop, StopsOn, last_line}
use Rattle.st_syntax_messages.specs.Stopped.{IsAtStop, IsOutsideAt, IsStoppedAt, IsTooDeepAt, StandsAt, start_at, text_end}
use Rattle.st_syntax_messages.proofs.TokenLines.{token_line}

-- a text that ends so has this at its end
ends_so : (text end : List ℕ) → ends_with nat_eq text end ≡ true → drop (length text - length end) text ≡ end
ends_so text end h = sym ((bytes_eq-Decides end (drop (length text - length end) text)).0 h)

-- it ends in this byte
ends_in : (text : List ℕ) (b : ℕ) → 1 ≤ length text → get_or text (length text - 1) 0 ≡ b → ends_with nat_eq text (b ∷ []) ≡ true
ends_in text b h e =
    let more = drop-cons text (length text - 1) 0 (omega (arith, h)) in
    let size = length-drop (suc (length text - 1)) text in
    let none : drop (suc (length text - 1)) text ≡ [] = empty (drop (suc (length text - 1)) text) (omega (arith, size)) in
    (bytes_eq-Decides (b ∷ []) (drop (length text - 1) text)).1 (sym (more ∙ ap (λ (c : ℕ). c ∷ drop (suc (length text - 1)) text) e ∙ ap (λ zs. b ∷ zs) none)) where
      empty : (xs : List ℕ) → length xs ≡ 0 → xs ≡ []
      empty [] h = refl
      empty (x ∷ xs) h = absurd (omega (arith, h))

-- the end of a text stands on the line of its last byte
end_line : (text : List ℕ) → line_at text (text_end text) ≡ last_line text
end_line text = by_test (ends_with nat_eq text (codes "\r\n"))
    (λ t. let e = ends_so text (codes "\r\n") t in
    let size = ap length e in let dropped = length-drop (length text - 2) text in
    let more = drop-cons text (length text - 2) 0 (omega (arith, size, dropped)) in
    let same : get_or text (length text - 2) 0 ∷ drop (suc (length text - 2)) text ≡ 13 ∷ 10 ∷ [] = sym more ∙ e in
    let byte : get_or text (length text - 2) 0 ≡ 13 = ap (λ (zs : List ℕ). get_or zs 0 0) same in
    let plain = no_feed (get_or text (length text - 2) 0) (λ f. let wrong = sym byte ∙ f in omega (arith, wrong)) in
    let step = line_more text (length text - 2) (omega (arith, size, dropped)) in
    let at : length text - 2 + 1 ≡ length text - 1 = omega (arith, size, dropped) in
    let there = ap (line_at text) at in
    rw t (omega (arith, plain, step, there)))
    (λ t. by_test (ends_with nat_eq text (codes "\n"))
    (λ u. rw (t, u) refl)
    (λ u. rw (t, u) (elim (cases_lt 0 (length text)) [
      | inl h ↦ let plain = no_feed (get_or text (length text - 1) 0) (λ f. let wrong = sym (ends_in text 10 (omega (arith, h)) f) ∙ u in cc) in
          let step = line_more text (length text - 1) (omega (arith, h)) in
          let at : length text - 1 + 1 ≡ length text = omega (arith, h) in
          let there = ap (line_at text) at in omega (arith, plain, step, there)
      | inr h ↦ ap (line_at text) (omega (arith, h))
    ])))

-- what is told of a text stands on the line on which reading stops
stopped_line : (refusal : Option Position → Refusal) (line : ℕ) (text : List ℕ) (start : ℕ) → IsStoppedAt refusal line text start → line_at text start ≡ line
stopped_line refusal line text start w = by w.on.place refl where
  by : (place : Option Position) → w.on.place ≡ place → line_at text start ≡ line
  by None e = let here = subst (λ p. StandsAt text w.lexemes p start) e w.stands in
      ap (line_at text) here ∙ end_line text ∙ sym (w.on.on ∙ ap (λ (p : Option Position). line_or (last_line text) p) e)
  by (Some place) e =
      let here = subst (λ p. StandsAt text w.lexemes p start) e w.stands in
      let last : IsLast w.on.tokens place = subst (λ p. IsStop w.on.tokens p) e w.on.is in
      ap (line_at text) (here ∙ ap (λ (n : ℕ). start_at w.lexemes n) last.number)
      ∙ token_line text w.lexemes last.before last.token last.behind (subst (λ ts. AreLexemes text ts w.lexemes) last.splits w.are)
      ∙ sym last.line ∙ sym (w.on.on ∙ ap (λ (p : Option Position). line_or (last_line text) p) e)

-- what is said at the stop is said where the line is named
stopped_at : (refusal : Option Position → Refusal) → ((place : Option Position) → place_of (refusal place) ≡ place) → (line : ℕ) (text : List ℕ) (start : ℕ)
    → StopsOn refusal line text → IsAtStop text start → IsStoppedAt refusal line text start
stopped_at refusal placed line text start on at =
    let w = at on.tokens (refusal on.place) on.short on.has on.stops in
    record { on = on; lexemes = w.0; are = w.1; stands = subst (λ p. StandsAt text w.0 p start) (placed on.place) w.2 }

pub outside_at : (line : ℕ) (text : List ℕ) (start : ℕ) → StopsOn Wrong line text → IsAtStop text start → IsOutsideAt text line start
outside_at line text start on at = stopped_at Wrong (λ place. refl) line text start on at

pub too_deep_at : (line : ℕ) (text : List ℕ) (start : ℕ) → StopsOn Deep line text → IsAtStop text start → IsTooDeepAt text line start
too_deep_at line text start on at = stopped_at Deep (λ place. refl) line text start on at

pub outside_line : (line : ℕ) (text : List ℕ) (start : ℕ) → IsOutsideAt text line start → line_at text start ≡ line
outside_line line text start w = stopped_line Wrong line text start w

pub too_deep_line : (line : ℕ) (text : List ℕ) (start : ℕ) → IsTooDeepAt text line start → line_at text start ≡ line
too_deep_line line text start w = stopped_line Deep line text start w
