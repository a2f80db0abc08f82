-- How many elements the array types of a text have.
use Rattle.std.proofs.Common.{◌≡◌, ℕ, zero, suc, ◌<◌, ◌≤◌, ltb, List, [], ◌∷◌, ◌++◌, map, length, get_or, drop, Option, Some, None, is_some, IfSome, option_copied, slice_get, refl, ap, sym, ◌∙◌, arith}
use Rattle.std.specs.Borrow.{Bor}
use Rattle.std.specs.Option.{option_flatten}
use Rattle.std.proofs.lemmas.Bool.Decides.{nat_tests}
use Rattle.std.proofs.lemmas.List.{append-nil, drop_all}
use Rattle.std.proofs.lemmas.Simd.{map-map}
use Rattle.std.proofs.lemmas.Option.{slice_get_past, slice_get_read}
use Rattle.st_tree.specs.declared.tree.declaration.DeclaredType.TheVariants as declared_types
use Rattle.st_tree.specs.declared.tree.declaration.Specification.TheVariants as specifications
use Rattle.st_tree.specs.declared.tree.declaration.Specification.{Specification}
use Rattle.st_types.specs.Names.{Declares, Named, unit_at}
use Rattle.st_types.specs.Names as names
use Rattle.st_types.specs.Types.{Shape, declared_elements, elements_in, optional_elements, specified_elements}
use Rattle.st_types.specs.Inside.{declared_by, named_by}
use Rattle.st_types.specs.declared.base.Base.TheVariants as bases
use Rattle.st_types.specs.declared.unit.NamedUnit.{NamedUnit}
use Rattle.st_check_units.specs.Counted.{counted, counted_sizes, declared_size, elements_size, specified_size}
use Rattle.st_check_units.specs.Declarations.{elements_by, elements_of}

-- ---- the sizes are gathered

-- of a unit as it is borrowed from the text
abbrev pub unit_size : NamedUnit → Option ℕ
unit_size u = counted (declared_size (declared_by u.kind))

-- those of all units
pub sizes_done : (units : List NamedUnit) (i : ℕ) (sizes : List (Option ℕ)) (of_text : List Named) → map named_by units ≡ of_text → length units ≤ i → sizes ++ map unit_size (drop i units) ≡ map unit_size units → sizes ≡ counted_sizes of_text
sizes_done units i sizes of_text same le h =
    sym (append-nil sizes) ∙ sym (ap (λ us. sizes ++ map unit_size us) (drop_all i units le)) ∙ h ∙ sym (map-map (λ u. counted (declared_size u.declares)) named_by units) ∙ ap counted_sizes same

-- ---- and looked up

-- what `get` gives, as a value
pub copied_at : {X : Type 0} (xs : List X) (i : ℕ) (r : Option (Bor X)) → is_some r ≡ ltb i (length xs) → IfSome r (λ x. x.now ≡ get_or xs i x.now) → option_copied r ≡ slice_get xs i
copied_at xs i None some item = let le : length xs ≤ i = grind (arith, nat_tests) in sym (slice_get_past xs i le)
copied_at xs i (Some x) some item = let lt : i < length xs = grind (arith, nat_tests) in sym (slice_get_read xs (length xs) i x.now refl lt item)

specified_is : (units : List Named) (s : Specification) → specified_size s ≡ elements_size (specified_elements units s)
specified_is units (specifications.Simple t) = refl
specified_is units (specifications.Array position ranges t) = refl

declared_is : (units : List Named) (d : Declares) → declared_size d ≡ elements_size (declared_elements units d)
declared_is units (names.type (declared_types.Derived s initial)) = specified_is units s
declared_is units (names.type (declared_types.Structure position members)) = refl
declared_is units (names.function f) = refl
declared_is units (names.block b) = refl
declared_is units (names.program p) = refl

size_at : (all units : List Named) (i : ℕ) → option_flatten (slice_get (counted_sizes units) i) ≡ counted (elements_size (optional_elements all (unit_at units i)))
size_at all [] i = refl
size_at all (u ∷ us) zero = ap counted (declared_is all u.declares)
size_at all (u ∷ us) (suc i) = size_at all us i

-- that of an array type
pub array_type_size : (units : List Named) (s : Shape) (i : ℕ) (sizes : List (Option ℕ)) (found : Option (Option ℕ)) (size : Option ℕ)
    → s.subscripts ≡ None → s.base ≡ bases.Array i → sizes ≡ counted_sizes units → found ≡ slice_get sizes i → size ≡ option_flatten found → size ≡ counted (elements_size (elements_of units s))
array_type_size units s i sizes found size plain base are at flat =
    flat ∙ ap option_flatten (at ∙ ap (λ xs. slice_get xs i) are) ∙ size_at units units i
    ∙ sym (ap (λ b. counted (elements_size (elements_in units b))) base) ∙ sym (ap (λ o. counted (elements_size (elements_by units o s.base))) plain)
