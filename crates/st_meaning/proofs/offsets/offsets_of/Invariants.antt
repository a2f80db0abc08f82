use Rattle.std.proofs.Common.{◌≡◌, ◌+◌, ◌*◌, ◌≤◌, take}
use Rattle.st_meaning.specs.Counts.{places_from}
use Rattle.st_meaning.specs.Views.{flags_place}
use Rattle.st_meaning.proofs.offsets.offsets_of.Given as goal

-- the places of the steps so far, and where the next one stands
abbrev pub invariant-pulses : goal.invariant-pulses
invariant-pulses l = record {
  steps : l.steps.items ≡ places_from 1 (take l.has_pulses-index l.pulses);
  next : l.place ≡ flags_place (take l.has_pulses-index l.pulses);
  few : l.place ≤ 4 * l.has_pulses-index + 1;
}
