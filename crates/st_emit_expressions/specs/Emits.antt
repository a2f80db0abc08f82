-- Code that is made from its last instruction to the first.
use Rattle.std.specs.Prelude.{◌≡◌, List, ◌++◌, reverse}
use Rattle.st_values.specs.declared.elem.Elem.{Elem}
use Rattle.st_types.specs.Compositions.{Composition}
use Rattle.st_types.specs.OwnTypes.{or_lint}
use Rattle.st_tree.specs.declared.tree.expression.Expression.{Expression}
use Rattle.st_meaning.specs.Sound.{term_type}
use Rattle.st_meaning.specs.Terms.{Term, Terms}
use Rattle.st_meaning.specs.Typing.{terms_of, typed}
use Rattle.st_meaning.specs.Wholes.{Whole}
use Rattle.st_code.specs.Code.{Line, term_code}
use Rattle.std.specs.Prelude.{map}

-- the code of the term, which has the type, was put behind what was there
pub record Emits (root : Composition) (t : Elem) (term : Term) (old new : List Line) : Type 0 where
  pub code : new ≡ old ++ reverse (term_code root term)
  pub due : term_type root term ≡ t

-- where the one term follows, the other one is complete
pub record Leaves (root : Composition) (t : Elem) (part : Term) (now : List Line) (whole_due : Elem) (term : Term) (old : List Line) : Type 0 where
  pub completed : (new : List Line) → Emits root t part now new → Emits root whole_due term old new

-- expressions of which no type is due
abbrev pub terms_in : Whole → List Expression → Terms
terms_in w xs = terms_of (map (typed w) xs)

-- their types
abbrev pub own_types : Whole → List Expression → List Elem
own_types w xs = map (λ x. or_lint (typed w x).own) xs
