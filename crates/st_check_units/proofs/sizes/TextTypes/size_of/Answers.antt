use Rattle.std.proofs.Common.{ap, sym, ◌∙◌, option_map}
use Rattle.st_types.specs.Names.{units_of}
use Rattle.st_types.specs.Types.{Shape}
use Rattle.st_check_units.specs.Counted.{counted_sizes}
use Rattle.st_check_units.proofs.UnitSizes.{array_type_size, copied_at}
use Rattle.st_check_units.proofs.sizes.TextTypes.size_of.Goals as goal

pub returns : goal.returns
returns c =
    array_type_size (units_of c.args.self.now) c.args.shape.now c.in-Array.number c.deref.result.now c.copied.result c.flatten.result
    (sym (ap Shape.subscripts c.shape.view_is) ∙ ap (option_map (λ ranges. ranges.now)) c.in_default.is) (sym (ap Shape.base c.shape.view_is) ∙ c.in-Array.is)
    (c.deref.ensures.value ∙ c.self.invariant ∙ ap (λ text. counted_sizes (units_of text)) c.self.view_is)
    (c.copied.ensures ∙ copied_at c.deref.result.now c.in-Array.number c.get.result (let h = c.get.ensures.lookup in h.0) (let h = c.get.ensures.lookup in h.1)) c.flatten.ensures
