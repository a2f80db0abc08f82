-- Declared names, with what stands for their types.
use Rattle.std.specs.Prelude.{◌≡◌, List, Option, map}
use Rattle.std.specs.Option.{option_copied, option_map}
use Rattle.st_tree.specs.declared.tree.declaration.Initial.{Initial}
use Rattle.st_types.specs.Initials.{element_initial, initial_of}
use Rattle.st_types.specs.Names.{Declared, Named}
use Rattle.st_types.specs.Types.{Shape, shape_of}
use Rattle.st_listing.specs.declared.members.Member.TheInside.{Inside}

pub record MemberView : Type 0 where
  pub declared : Declared
  pub shape : Shape
  -- with what it begins, and each element of what is declared as an array, where a value is written
  pub initial : Option Initial
  pub of_elements : Option Initial

abbrev pub member_seen : Inside → MemberView
member_seen m = record {
  declared = m.row.now;
  shape = record { subscripts = option_map (λ ranges. ranges.now) m.subscripts; base = m.base };
  initial = option_copied m.initial;
  of_elements = option_copied m.of_elements;
}

-- what stands for a declared name in a text of these units
abbrev pub member_of : List Named → Declared → MemberView
member_of units v = record { declared = v; shape = shape_of units v.specification; initial = initial_of units v; of_elements = element_initial units v.specification }

pub record IsMember (units : List Named) (m : MemberView) : Type 0 where
  pub shape : m.shape ≡ shape_of units m.declared.specification
  pub initial : m.initial ≡ initial_of units m.declared
  pub of_elements : m.of_elements ≡ element_initial units m.declared.specification

abbrev pub declared_of : List MemberView → List Declared
declared_of members = map (λ m. m.declared) members
