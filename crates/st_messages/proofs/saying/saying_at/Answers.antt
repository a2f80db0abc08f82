use Rattle.std.proofs.Common.{◌∙◌, ap, sym, Some}
use Rattle.std.specs.Prelude.{option_map}
use Rattle.std.proofs.lemmas.Option.{slice_get-map, slice_get-get_or}
use Rattle.st_messages.proofs.saying.saying_at.Goals as goal

pub returns : goal.returns
returns g c = (
  c.index-rows-number.result.0,
  slice_get-map _ c.args.rows.now c.args.number ∙ ap (option_map _)
      (slice_get-get_or c.args.rows.now c.args.number c.index-rows-number.result c.requires ∙ ap Some (sym c.index-rows-number.is)),
)
