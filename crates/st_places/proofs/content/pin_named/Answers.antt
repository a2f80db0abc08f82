use Rattle.std.proofs.Common.{◌∙◌, ap, subst, sym}
use Rattle.std.proofs.lemmas.Option.{slice_get-get_or}
use Rattle.st_leaves.specs.Selected.{pin_selected}
use Rattle.st_types.specs.Compositions.{standard}
use Rattle.st_types.specs.Standard.{pins_of}
use Rattle.st_places.specs.Contents.{IsSelected}
use Rattle.st_places.proofs.PinNumbers.{no_pin, one_pin, pin_below}
use Rattle.st_places.proofs.content.pin_named.Goals as goal

pub returns-in_err-number : goal.returns-in_err-number
returns-in_err-number c = λ text.
    subst (IsSelected text (standard c.args.block) c.args.name.now) (sym c.from_residual.ensures)
    (ap pin_selected (no_pin c.pins-pins.result.now (pins_of c.args.block) c.args.name.now c.pins-pins.ensures (sym c.pin_number.ensures ∙ c.in_err-number.was)))

pub returns : goal.returns
returns c = λ text.
    let at = sym c.pin_number.ensures ∙ c.in_ok-number.was in
    let both = one_pin c.pins-pins.result.now (pins_of c.args.block) c.args.name.now c.in_ok-number.number _ c.pins-pins.ensures at
    (slice_get-get_or c.pins-pins.result.now c.in_ok-number.number _ (pin_below c.pins-pins.result.now c.args.name.now c.in_ok-number.number at)) in
    (both.0, (λ few. both.1, tt))
