use Rattle.std.proofs.Common.{◌≡◌, sym, ◌∙◌, ap, ℕ, map, length}
use Rattle.std.proofs.lemmas.List.{length-map}
use Rattle.st_types.specs.Inside.{named_by}
use Rattle.st_types.specs.Links.{link_at, names_of, optional_link}
use Rattle.st_types.specs.Names.{unit_at}
use Rattle.st_types.proofs.TypeTables.{type_at-linked}
use Rattle.st_types.proofs.types.TypeTable.new.Goals as goal

pub invariant_of-result : goal.invariant_of-result
invariant_of-result c =
    let names : c.in_ok-names.names ≡ names_of (map named_by c.in_ok-units.units.items) = rw c.deref.ensures.value at c.in_ok-names.ensures in
    let linked : (i : ℕ) → link_at c.in_ok-links.links.items i ≡ optional_link (names_of (map named_by c.in_ok-units.units.items)) i (unit_at (map named_by c.in_ok-units.units.items) i) =
    λ i. rw (names, c.deref-2.ensures.value) at c.in_ok-links.ensures.links i in
    let len : length c.in_ok-links.links.items ≡ length (map named_by c.in_ok-units.units.items) =
    c.in_ok-links.ensures.len ∙ (ap length c.deref-2.ensures.value ∙ sym (length-map c.in_ok-units.units.items named_by)) in record {
      names = names;
      bases = λ i. (rw c.deref-3.ensures.value at c.in_ok-bases.ensures i) ∙ type_at-linked (map named_by c.in_ok-units.units.items) c.in_ok-links.links.items linked len i;
    }
