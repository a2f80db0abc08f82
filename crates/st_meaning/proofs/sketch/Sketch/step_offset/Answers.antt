use Rattle.std.proofs.Common.{◌≡◌, ap, arith, length, ◌∙◌}
use Rattle.st_meaning.specs.Views.{step_place}
use Rattle.st_meaning.proofs.SketchPlaces.{place_at, places_count}
use Rattle.st_meaning.proofs.sketch.Sketch.step_offset.Goals as goal

pub index-requires : goal.index-requires
index-requires c =
    let counted : length c.self.inside.offsets.steps.items ≡ length c.self.inside.pulses.items = ap length c.self.invariant.places.steps ∙ places_count 1 c.self.inside.pulses.items in
    let seen : length c.self.inside.pulses.items ≡ length c.args.self.now.pulses = ap (λ v. length v.pulses) c.self.view_is in
    omega (arith, counted, seen, c.requires)

pub returns : goal.returns
returns c =
    let seen : length c.self.inside.pulses.items ≡ length c.args.self.now.pulses = ap (λ v. length v.pulses) c.self.view_is in
    c.index.ensures
    ∙ place_at c.self.inside.pulses.items c.self.inside.offsets.steps.items c.args.step c.index.result.now c.self.invariant.places.steps (omega (arith, seen, c.requires))
    ∙ ap (λ v. step_place v.pulses c.args.step) c.self.view_is
