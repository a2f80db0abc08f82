use Rattle.std.proofs.Common.{◌≡◌, ◌∙◌, List, Some, refl, subst, sym}
use Rattle.st_places.specs.Members.{AreElements}
use Rattle.st_places.specs.Parts.{inside}
use Rattle.st_leaves.specs.Places.{count}
use Rattle.st_check.specs.Sized.{IsSized}
use Rattle.st_check.proofs.Parts.{elements_sized}
use Rattle.st_types.specs.Names.{Named, units_of}
use Rattle.st_types.specs.Types.{Elements, elements_in}
use Rattle.st_types.specs.declared.base.Base.TheVariants as bases
use Rattle.st_places.specs.declared.unit.ArrayParts.{ArrayParts}
use Rattle.st_places.proofs.unit.elements_of.Goals as goal

pub returns : goal.returns
returns c =
    let units : List Named = units_of c.args.tables.now in
    let array : elements_in units (bases.Array c.args.unit) ≡ Some c.in-Some.elements = sym c.elements.ensures ∙ c.in-Some.is in
    let parts : ArrayParts = record { base = c.elements-2.inside.element; dimensions = c.in_ok-all.all.items } in
    let sized : IsSized units c.args.sizes.now c.elements-2.inside.element =
    subst (λ (e : Elements). IsSized units c.args.sizes.now e.element) (sym c.elements-2.view_is) (elements_sized units c.args.sizes.now c.args.unit c.in-Some.elements array (λ j refers. c.requires j)) in
    subst (λ elements. AreElements units elements (Some parts)) (sym array)
    (subst (λ (e : Elements). AreElements units (Some e) (Some parts)) c.elements-2.view_is
    (refl, c.in_ok-all.ensures.items (count (inside units c.elements-2.inside.element)) (c.leaves_of.ensures.count units sized)))
