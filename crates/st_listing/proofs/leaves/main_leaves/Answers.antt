use Rattle.std.proofs.Common.{List, ap, map, subst, sym, ◌∙◌}
use Rattle.st_check.specs.Sized.{IsSized}
use Rattle.st_leaves.specs.declared.limited.Size.{Size}
use Rattle.st_types.specs.Names.{units_of}
use Rattle.st_types.specs.Types.{type_at}
use Rattle.st_values.specs.Words.{raised}
use Rattle.st_listing.specs.Walks.{AreRows}
use Rattle.st_listing.proofs.MemberLists.{are_members}
use Rattle.st_listing.proofs.leaves.main_leaves.Goals as goal

pub rows_of-requires : goal.rows_of-requires
rows_of-requires c = λ i. subst (λ (sizes : List Size). IsSized (units_of c.args.tables.now) sizes (type_at (units_of c.args.tables.now) i)) (sym c.as_slice.ensures.value) (c.in_ok-sizes.ensures i)

pub walked_leaves-requires-clause-walk : goal.walked_leaves-requires-clause-walk
walked_leaves-requires-clause-walk c = record {
  initials = c.in_ok-initials.ensures;
  names = c.as_slice-3.ensures.value ∙ c.in_ok-names.ensures ∙ ap (map (λ u. raised u.name.spelling)) c.units.ensures;
  members = are_members (units_of c.args.tables.now) c.as_slice-2.result.now c.as_slice-4.result.now (subst (AreRows (units_of c.args.tables.now)) (sym c.as_slice-2.ensures.value) c.in_ok-rows.ensures) (c.as_slice-4.ensures.value ∙ c.in_ok-members.ensures);
  charts = c.as_slice-5.ensures.value ∙ c.in_ok-charts.ensures;
}
