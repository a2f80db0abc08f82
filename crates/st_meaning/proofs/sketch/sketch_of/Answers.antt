use Rattle.std.proofs.Common.{◌≡◌, ap, length, subst, sym, ◌∙◌}
use Rattle.std.specs.List.{flat_map, list_any}
use Rattle.std.proofs.lemmas.List.{length-map}
use Rattle.st_types.specs.Names.{steps_in}
use Rattle.st_leaves.specs.Charts.{associations_in, is_pulse}
use Rattle.st_meaning.specs.Counts.{ArePlaces}
use Rattle.st_meaning.proofs.Stored.{stored_within}
use Rattle.st_meaning.proofs.Whole.{is_of}
use Rattle.st_meaning.proofs.sketch.sketch_of.Goals as goal

pub invariant_of-result : goal.invariant_of-result
invariant_of-result c =
    let pulses_count : length c.in_ok-pulses.pulses.items ≡ length (flat_map steps_in c.args.elements.now) =
    ap length c.in_ok-pulses.ensures ∙ length-map (flat_map steps_in c.args.elements.now) (λ s. list_any is_pulse s.associations) in record {
      steps = c.in_ok-table.ensures.steps ∙ sym pulses_count;
      names = c.in_ok-table.ensures.names ∙ sym c.requires.variables;
      stored =
          stored_within c.args.names.now (associations_in c.args.elements.now) c.in_ok-stored.stored.items (length c.args.variables.items) c.requires.names c.in_ok-stored.ensures c.requires.variables;
      places = subst (ArePlaces c.in_ok-offsets.offsets) c.as_slice.ensures.value c.in_ok-offsets.ensures;
    }

pub returns : goal.returns
returns c = λ root variables.
    is_of _ root c.args.elements.now c.args.names.now c.requires.names c.in_ok-pulses.ensures c.in_ok-table.ensures.passages c.in_ok-table.ensures.links variables c.in_ok-stored.ensures c.in_ok-actions.ensures
