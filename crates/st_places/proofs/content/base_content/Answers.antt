use Rattle.std.proofs.Common.{◌≡◌, ◌∙◌, Some, ap, subst, sym}
use Rattle.std.specs.Option.{option_copied}
use Rattle.st_leaves.specs.Selected.{element_of}
use Rattle.st_places.specs.Contents.{IsArrayOf, elements_of}
use Rattle.st_places.specs.Parts.{array_part, inside}
use Rattle.st_places.proofs.Contents.{array_content, block_content, element_below, no_array_content, unit_content, unknown_content, value_content}
use Rattle.st_places.proofs.content.base_content.Goals as goal

pub returns-in-Unknown : goal.returns-in-Unknown
returns-in-Unknown c = λ text are typed. unknown_content text c.args.base c.in-Unknown.is

pub returns-in-Elementary : goal.returns-in-Elementary
returns-in-Elementary c = λ text are typed. value_content text c.args.base c.in-Elementary.elem c.in-Elementary.is

pub returns-in-Some : goal.returns-in-Some
returns-in-Some c = λ text are typed.
    let there : elements_of c.args.units.now c.in-Array.unit ≡ Some c.in-Some.elements.now = sym c.elements_at.ensures ∙ ap option_copied c.in-Some.is in (
      subst (λ ds. IsArrayOf (inside text c.args.base) (element_of (array_part text c.in-Array.unit)) ds) (sym c.as_slice.ensures)
          (array_content text c.args.units.now are c.args.base c.in-Array.unit c.in-Some.elements.now c.in-Array.is typed.unfolded there),
      element_below text c.args.units.now are c.in-Array.unit c.in-Some.elements.now there,
    )

pub returns-in-None : goal.returns-in-None
returns-in-None c = λ text are typed.
    no_array_content text c.args.units.now are c.args.base c.in-Array.unit c.in-Array.is typed.unfolded (sym c.elements_at.ensures ∙ ap option_copied c.in-None.is)

pub returns-in-Standard : goal.returns-in-Standard
returns-in-Standard c = λ text are typed. block_content text c.args.base c.in-Standard.block c.in-Standard.is

pub returns-in-Structure : goal.returns-in-Structure
returns-in-Structure c = λ text are typed. unit_content text c.args.base c.in-Structure.unit c.in-Structure.is typed
