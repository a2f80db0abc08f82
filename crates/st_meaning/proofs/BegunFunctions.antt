-- The variables of a function begin with values of their types, the inputs with those that are given (2.5.1).
use Rattle.std.proofs.Common.{◌≡◌, ℕ, zero, suc, ◌<◌, List, [], ◌∷◌, ◌++◌, map, length, get_or, codes, refl, ap, sym, ◌∙◌, subst, arith}
use Rattle.std.specs.List.{AllByRecursion}
use Rattle.std.proofs.lemmas.List.Elements.{recursion_from_All}
use Rattle.st_values.specs.Values.{IsValue}
use Rattle.st_tree.specs.declared.tree.declaration.VarKind.{VarKind}
use Rattle.st_tree.specs.declared.tree.declaration.VarKind.TheVariants as var_kinds
use Rattle.st_tree.specs.declared.tree.unit.Function.{Function}
use Rattle.st_types.specs.Compositions.{Composition, elementary, composed, Members, none, member, composition_of, composition_within, members_by}
use Rattle.st_types.specs.Names.{Named, variables_of}
use Rattle.st_types.specs.Names as names
use Rattle.st_types.specs.Types.{shape_of}
use Rattle.st_leaves.specs.LeavesIn.{LeafIn, leaves_in, leaves_of_whole, members_in, used_as, variables_in, within}
use Rattle.st_leaves.specs.Paths.{Selector, field}
use Rattle.st_leaves.proofs.Begins.{begin_with_values, zero_is_value}
use Rattle.st_leaves.proofs.Numbers.{length_is_count}
use Rattle.st_operators.specs.Laws.{IsOf}
use Rattle.st_meaning.specs.Laws.{FunctionsDeclareTheirResults}
use Rattle.st_meaning.specs.Meaning.{Values, no_value}
use Rattle.st_meaning.specs.Sound.{AreInputsOf, AreValuesOf}
use Rattle.st_meaning.specs.Units.{begun, input_in, inputs_in, members_begun, members_of_function, variable_begun, with_input}
use Rattle.st_meaning.specs.Wholes.{Input}
use Rattle.st_meaning.proofs.LeafTypes.{elem_at}
use Rattle.st_meaning.proofs.TypedFunctions.{BeginWithValues}

-- ---- leaves that begin with values

abbrev Begin : List LeafIn → Type 0
Begin [] = Unit {0}
Begin (l ∷ ls) = IsValue l.initial × Begin ls

begin_each : (ls : List LeafIn) → AllByRecursion (λ l. IsValue l.initial) ls → Begin ls
begin_each [] h = tt
begin_each (l ∷ ls) h = (h.0, begin_each ls h.1)

begin_left : (xs ys : List LeafIn) → Begin (xs ++ ys) → Begin xs
begin_left [] ys h = tt
begin_left (x ∷ xs) ys h = (h.0, begin_left xs ys h.1)

begin_right : (xs ys : List LeafIn) → Begin (xs ++ ys) → Begin ys
begin_right [] ys h = h
begin_right (x ∷ xs) ys h = begin_right xs ys h.1

begin_inside : (s : Selector) (name : List ℕ) (ls : List LeafIn) → Begin (within s name ls) → Begin ls
begin_inside s name [] h = tt
begin_inside s name (l ∷ ls) h = (h.0, begin_inside s name ls h.1)

begin_input : (ls : List LeafIn) → Begin (used_as var_kinds.Input ls) → Begin ls
begin_input [] h = tt
begin_input (l ∷ ls) h = (h.0, begin_input ls h.1)

begin_used : (kind : VarKind) (ls : List LeafIn) → Begin (used_as kind ls) → Begin ls
begin_used var_kinds.Input ls h = begin_input ls h
begin_used _ ls h = h

-- of each member
abbrev MembersBegin : Members → Type 0
MembersBegin none = Unit {0}
MembersBegin (member name kind c ms) = Begin (leaves_in c) × MembersBegin ms

members_begin : (whole' : List ℕ) (ms : Members) → Begin (variables_in whole' ms) → MembersBegin ms
members_begin whole' none h = tt
members_begin whole' (member name kind c ms) h =
    let front = within (field name) whole' (used_as kind (leaves_in c)) in (
      begin_used kind (leaves_in c) (begin_inside (field name) whole' (used_as kind (leaves_in c)) (begin_left front (variables_in whole' ms) h)),
      members_begin whole' ms (begin_right front (variables_in whole' ms) h),
    )

-- of a function
pub function_begins : (units : List Named) (f : Function) → MembersBegin (members_of_function units f)
unfolding composition_of
function_begins units f =
    let all = begin_each (leaves_of_whole (composition_of units (names.function f)))
    (recursion_from_All (λ l. IsValue l.initial) (leaves_of_whole (composition_of units (names.function f))) (begin_with_values units (names.function f))) in
    let ms = members_by units (composition_within units (suc (length units))) (variables_of f.variables) in
    ((zero_is_value f.result, tt), members_begin (codes "PROGRAM") ms (begin_left (variables_in (codes "PROGRAM") ms) [] all))

-- ---- inputs

input_begins : (name : List ℕ) (kind : VarKind) (c : Composition) (is : List Input) → Begin (leaves_in c) → BeginWithValues is → BeginWithValues (with_input (input_in name kind c) is)
input_begins name var_kinds.Input (elementary v) is h rest = (h.0, rest)
input_begins name kind c is h rest = rest

pub inputs_begin : (ms : Members) → MembersBegin ms → BeginWithValues (inputs_in ms)
inputs_begin none h = tt
inputs_begin (member name kind c ms) h = input_begins name kind c (inputs_in ms) h.0 (inputs_begin ms h.1)

-- ---- values of the types of leaves

abbrev AreTyped : List LeafIn → Values → Type 0
AreTyped [] [] = Unit {0}
AreTyped (l ∷ ls) (v ∷ vs) = IsOf l.initial.elem v × AreTyped ls vs
AreTyped _ _ = ⊥

typed_append : (xs ys : List LeafIn) (vs ws : Values) → AreTyped xs vs → AreTyped ys ws → AreTyped (xs ++ ys) (vs ++ ws)
typed_append [] ys [] ws h k = k
typed_append [] ys (v ∷ vs) ws h k = elim h [ ]
typed_append (x ∷ xs) ys [] ws h k = elim h [ ]
typed_append (x ∷ xs) ys (v ∷ vs) ws h k = (h.0, typed_append xs ys vs ws h.1 k)

typed_end : (xs : List LeafIn) (vs : Values) → AreTyped xs vs → AreTyped (xs ++ []) vs
typed_end [] [] h = tt
typed_end [] (v ∷ vs) h = elim h [ ]
typed_end (x ∷ xs) [] h = elim h [ ]
typed_end (x ∷ xs) (v ∷ vs) h = (h.0, typed_end xs vs h.1)

typed_begun : (s : Selector) (name : List ℕ) (ls : List LeafIn) → Begin ls → AreTyped (within s name ls) (map (λ l. l.initial) ls)
typed_begun s name [] h = tt
typed_begun s name (l ∷ ls) h = (record { in_range = h.0; of_type = refl }, typed_begun s name ls h.1)

typed_length : (ls : List LeafIn) (vs : Values) → AreTyped ls vs → length vs ≡ length ls
typed_length [] [] h = refl
typed_length [] (v ∷ vs) h = elim h [ ]
typed_length (l ∷ ls) [] h = elim h [ ]
typed_length (l ∷ ls) (v ∷ vs) h = ap suc (typed_length ls vs h.1)

typed_at : (ls : List LeafIn) (vs : Values) → AreTyped ls vs → (n : ℕ) → n < length ls → IsOf (elem_at ls n) (get_or vs n no_value)
typed_at [] vs h n less = absurd (omega (arith, less))
typed_at (l ∷ ls) [] h n less = elim h [ ]
typed_at (l ∷ ls) (v ∷ vs) h zero less = h.0
typed_at (l ∷ ls) (v ∷ vs) h (suc n) less = typed_at ls vs h.1 n (omega (arith, less))

variable_typed : (whole' name : List ℕ) (kind : VarKind) (c : Composition) (more : List LeafIn) (go : Values → Values) (is : List Input) → Begin (leaves_in c)
    → ((given : Values) → AreInputsOf is given → AreTyped more (go given)) → (given : Values) → AreInputsOf (with_input (input_in name kind c) is) given
    → AreTyped (within (field name) whole' (leaves_in c) ++ more) (variable_begun c (input_in name kind c) go given)
variable_typed whole' name var_kinds.Input (elementary v) more go is h rest [] sound = elim sound [ ]
variable_typed whole' name var_kinds.Input (elementary v) more go is h rest (w ∷ given) sound = (sound.0, rest given sound.1)
variable_typed whole' name kind c more go is h rest given sound =
    typed_append (within (field name) whole' (leaves_in c)) more (begun c) (go given) (typed_begun (field name) whole' (leaves_in c) h) (rest given sound)

members_typed : (whole' : List ℕ) (ms : Members) → MembersBegin ms → (given : Values) → AreInputsOf (inputs_in ms) given → AreTyped (members_in whole' ms) (members_begun ms given)
members_typed whole' none h [] sound = tt
members_typed whole' none h (v ∷ given) sound = elim sound [ ]
members_typed whole' (member name kind c ms) h given sound =
    variable_typed whole' name kind c (members_in whole' ms) (members_begun ms) (inputs_in ms) h.0 (members_typed whole' ms h.1) given sound

pub members_have_values : (whole' : List ℕ) (ms : Members) → MembersBegin ms → (given : Values) → AreInputsOf (inputs_in ms) given
    → AreValuesOf (composed whole' ms []) (members_begun ms given)
members_have_values whole' ms h given sound =
    let root = composed whole' ms [] in
    let typed = typed_end (members_in whole' ms) (members_begun ms given) (members_typed whole' ms h given sound) in
    record {
      all = typed_length (leaves_in root) (members_begun ms given) typed ∙ length_is_count root;
      each = λ n less. typed_at (leaves_in root) (members_begun ms given) typed n (subst (λ k. n < k) (sym (length_is_count root)) less);
    }

-- ---- the result

pub functions_declare_their_results : FunctionsDeclareTheirResults
unfolding composition_within shape_of
functions_declare_their_results units f = refl
