-- Which names are on, in an engineer's words.
use Rattle.std.proofs.Common.{◌≡◌, ℕ, Bool, true, false, ◌&&◌, ◌||◌, not, List, eqb, refl, ap, ◌∙◌, inl, inr}
use Rattle.std.proofs.lemmas.Bool.{and_from, and_parts, cases_Bool, eq-eqb, eqb-true, or_from, or_right}
use Rattle.std.proofs.lemmas.List.Folds.{Any-from_list_any, list_any_at}
use Rattle.st_charts.specs.Charts.{is_named, resets, shows, stored_after, stores}
use Rattle.st_charts.specs.Laws.{HasActive, NamesAreOff, NamesAreOn, ResetWins}
use Rattle.st_charts.specs.declared.step.StepCell.{StepCell}
use Rattle.st_charts.specs.declared.table.Link.{Link}

module _ (links : List Link) (steps : ℕ → StepCell) (n : ℕ) (does : Link → StepCell → Bool) where
  named : HasActive links steps n does → is_named links steps does n ≡ true
  named has =
      list_any_at (λ link. eqb link.name n && ((steps link.step).active && does link (steps link.step))) links has.listed.0 has.link has.listed.1
      (ap (λ link. eqb link.name n && ((steps link.step).active && does link (steps link.step))) has.listed.2
      ∙ and_from (eqb has.link.name n) ((steps has.link.step).active && does has.link (steps has.link.step)) (eq-eqb has.link.name n has.name)
      (and_from (steps has.link.step).active (does has.link (steps has.link.step)) has.active has.effect))

  has_active : is_named links steps does n ≡ true → HasActive links steps n does
  has_active is =
      let found = Any-from_list_any (λ link. eqb link.name n && ((steps link.step).active && does link (steps link.step))) links is in
      let one = and_parts (eqb found.1.name n) ((steps found.1.step).active && does found.1 (steps found.1.step)) found.4 in
      let two = and_parts (steps found.1.step).active (does found.1 (steps found.1.step)) one.1 in
      record { link = found.1; listed = (found.0, found.2, found.3); name = eqb-true found.1.name n one.0; active = two.0; effect = two.1 }

  not_named : (HasActive links steps n does → ⊥) → is_named links steps does n ≡ false
  not_named none = elim (cases_Bool (is_named links steps does n)) as (λ _. is_named links steps does n ≡ false) [
    | inl is_so ↦ absurd (none (has_active is_so))
    | inr is_not ↦ is_not
  ]

pub reset_wins : ResetWins
reset_wins links steps stored n has = (
  ap (λ b. not b && (is_named links steps stores n || stored n)) (named links steps n resets has),
  ap (λ b. not b && (stored_after links steps stored n || is_named links steps shows n)) (named links steps n resets has),
)

pub names_are_on : NamesAreOn
names_are_on links steps stored n none =
    let is_not : is_named links steps resets n ≡ false = not_named links steps n resets none in (
      λ has. ap (λ b. not b && (is_named links steps stores n || stored n)) is_not ∙ ap (λ b. b || stored n) (named links steps n stores has),
      λ has. ap (λ b. not b && (is_named links steps stores n || stored n)) is_not ∙ ap (λ b. b || stored n) (not_named links steps n stores has),
      λ is. ap (λ b. not b && (stored_after links steps stored n || is_named links steps shows n)) is_not ∙ ap (λ b. b || is_named links steps shows n) is,
      λ has. ap (λ b. not b && (stored_after links steps stored n || is_named links steps shows n)) is_not
          ∙ or_right (stored_after links steps stored n) (is_named links steps shows n) (named links steps n shows has),
    )

off : (b : Bool) → (b && false) ≡ false
off true = refl
off false = refl

pub names_are_off : NamesAreOff
names_are_off links steps stored n is none =
    ap (λ b. not (is_named links steps resets n) && b) (or_from (stored_after links steps stored n) (is_named links steps shows n) is (not_named links steps n shows none))
    ∙ off (not (is_named links steps resets n))
