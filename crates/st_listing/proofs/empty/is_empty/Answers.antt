use Rattle.std.proofs.Common.{◌∙◌, rules, sym}
use Rattle.st_types.specs.Names.{units_of}
use Rattle.st_listing.proofs.Empties.{empty_type, empty_unknown}
use Rattle.st_listing.proofs.empty.is_empty.Goals as goal

pub returns-then-eq : goal.returns-then-eq
returns-then-eq c = λ none.
    empty_type (units_of c.args.tables.now) c.args.sizes.now c.args.base c.in-Some.unit c.size_at.result c.requires (search rules) (sym c.unit_of.ensures ∙ c.in-Some.is) c.size_at.ensures (search rules)

pub returns-in-None : goal.returns-in-None
returns-in-None c = λ is. empty_unknown (units_of c.args.tables.now) c.args.base (sym c.is_unknown.ensures ∙ is)
