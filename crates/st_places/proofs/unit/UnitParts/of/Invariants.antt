use Rattle.std.proofs.Common.{◌≡◌, ◌++◌, map, take}
use Rattle.st_places.specs.Charts.{HasElements}
use Rattle.st_places.specs.Members.{AreElements, HasNames, is_small_type}
use Rattle.st_places.specs.Parts.{chart_at}
use Rattle.st_places.proofs.Results.{results_at}
use Rattle.st_scopes.specs.Declarations.{seen}
use Rattle.st_types.specs.Names.{units_of}
use Rattle.st_types.specs.Types.{elements_in, type_at}
use Rattle.st_types.specs.declared.base.Base.TheVariants as bases
use Rattle.st_places.proofs.unit.UnitParts.of.Given as goal

-- of the names so far
abbrev pub invariant-names : goal.invariant-names
invariant-names l = record {
  names : HasNames (units_of l.tables) (results_at (units_of l.tables) l.unit ++ map seen (take l.declared-index l.declared-items)) l.parts;
  chart : HasElements (chart_at (units_of l.tables) l.unit) l.parts.chart;
  small : l.parts.is_small_block ≡ is_small_type (units_of l.tables) (type_at (units_of l.tables) l.unit);
  elements : AreElements (units_of l.tables) (elements_in (units_of l.tables) (bases.Array l.unit)) l.parts.elements;
}
