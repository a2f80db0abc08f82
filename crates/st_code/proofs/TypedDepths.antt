-- Typed terms need at most as many cells as their trees.
use Rattle.std.proofs.Common.{◌≡◌, ℕ, suc, ◌+◌, ◌≤◌, Bool, true, false, if◌then◌else◌, List, [], ◌∷◌, ◌++◌, map, length, Option, Some, None, is_some, refl, ap, subst, arith}
use Rattle.std.specs.Prelude.{max}
use Rattle.st_values.specs.Types.{is_same}
use Rattle.st_values.specs.declared.elem.Elem.{Elem}
use Rattle.st_values.specs.declared.elem.Elem.TheVariants as elems
use Rattle.st_values.specs.declared.value.Value.{Value}
use Rattle.st_tree.specs.declared.operator.BinOp.{BinOp}
use Rattle.st_tree.specs.declared.tree.constant.Constant.{Constant}
use Rattle.st_types.specs.Compositions.{Composition}
use Rattle.st_operators.specs.Operators.{is_comparison}
use Rattle.st_types.specs.OwnTypes.{first_own, or_lint}
use Rattle.st_types.specs.declared.standard.Standard.{Standard}
use Rattle.st_types.specs.declared.standard.Standard.TheVariants as standards
use Rattle.st_types.specs.declared.standard.StandardFunction.{StandardFunction}
use Rattle.st_types.specs.declared.standard.StandardFunction.TheVariants as functions
use Rattle.st_meaning.specs.Operations.{takes_one, takes_two}
use Rattle.st_meaning.specs.Steps.{has_step, step_elem}
use Rattle.st_meaning.specs.Terms.{Source, Term, call, constant, of_step, stored, unary, binary, how_many, Parts, whole, field_part, element_part}
use Rattle.st_meaning.specs.Typing as typing
use Rattle.st_meaning.specs.Typing.{Passed, Typed, alone, arguments_from, as_input, call_typed, chained, combined, combined_all, compared, constant_or, converted, fitted, function_called, function_typed, go_to, goes_to, input_at, joined, literal, named_value, nil, part_or_step, place_typed, prefixed, selected, shifted, sources_from, step_part, step_value, terms_of, through, unnamed, untyped, variable_typed}
use Rattle.st_meaning.specs.Wholes.{Called, Input, Whole, type_of}
use Rattle.st_meaning.specs.declared.operation.Binary.{Binary}
use Rattle.st_meaning.specs.declared.operation.Binary.TheVariants as binaries
use Rattle.st_meaning.specs.declared.operation.Unary.{Unary}
use Rattle.st_meaning.specs.declared.operation.Unary.TheVariants as unaries
use Rattle.st_code.specs.Code.{are_in_order}
use Rattle.st_code.specs.Depth.{call_depth, parts_depth, term_depth, terms_depth}
use Rattle.st_code.specs.Depths.{Cells, all_cells, called_cells, in_turn, is_choice, most, unnamed_before, unnamed_cells}

-- as whichever type is due, it needs at most so many cells; and so many that one value stands there
pub record HasDepth (x : Typed) (n : ℕ) : Type 0 where
  pub some : 1 ≤ n
  pub most : (e : Elem) → term_depth (x.as_type e) ≤ n

abbrev pub HaveDepths : List Typed → List ℕ → Type 0
HaveDepths [] [] = Unit {0}
HaveDepths (x ∷ xs) (d ∷ ds) = HasDepth x d × HaveDepths xs ds
HaveDepths _ _ = ⊥

-- an argument, with a name where its tree has one
pub record PassesDepth (x : Passed) (c : Cells) : Type 0 where
  pub deep : HasDepth x.value c.cells
  pub named : is_some x.name ≡ c.named

abbrev pub PassDepths : List Passed → List Cells → Type 0
PassDepths [] [] = Unit {0}
PassDepths (x ∷ xs) (c ∷ cs) = PassesDepth x c × PassDepths xs cs
PassDepths _ _ = ⊥

-- no function takes more inputs
abbrev pub TakeAtMost : Whole → ℕ → Type 0
TakeAtMost w inputs = (name : List ℕ) (f : Called) → w.functions name ≡ Some f → length f.inputs ≤ inputs

-- what makes something of an operand
abbrev pub AddsDepth : (Typed → Typed) → ℕ → Type 0
AddsDepth f d = (x : Typed) (n : ℕ) → HasDepth x n → HasDepth (f x) (max n d)

abbrev pub AddDepths : List (Typed → Typed) → List ℕ → Type 0
AddDepths [] [] = Unit {0}
AddDepths (f ∷ fs) (d ∷ ds) = AddsDepth f d × AddDepths fs ds
AddDepths _ _ = ⊥

-- what puts a part before others
abbrev pub PutsDepth : (Parts → Parts) → ℕ → Type 0
PutsDepth f d = (ps : Parts) → parts_depth (f ps) ≤ max d (parts_depth ps)

abbrev pub PutDepths : List (Parts → Parts) → List ℕ → Type 0
PutDepths [] [] = Unit {0}
PutDepths (f ∷ fs) (d ∷ ds) = PutsDepth f d × PutDepths fs ds
PutDepths _ _ = ⊥

pub more_depth : (x : Typed) (n m : ℕ) → HasDepth x n → n ≤ m → HasDepth x m
more_depth x n m h le = record { some = omega (arith, h.some, le); most = λ e. omega (arith, h.most e, le) }

-- ---- literals, constants and places

untyped_depth : (n : ℕ) → 1 ≤ n → HasDepth untyped n
untyped_depth n h = record { some = h; most = λ e. h }

fitted_depth : (e : Elem) (t : Term) (n : ℕ) → 1 ≤ n → term_depth t ≤ n → (due : Elem) → term_depth (fitted e t due) ≤ n
fitted_depth e t n h k due = by (is_same e due) where
  by : (b : Bool) → term_depth (if b then t else nil due) ≤ n
  by true = k
  by false = h

pub literal_depth : (c : Constant) → HasDepth (literal c) 1
literal_depth c = record { some = omega arith; most = λ e. omega arith }

named_depth : (v : Value) (n : ℕ) → 1 ≤ n → HasDepth (named_value v) n
named_depth v n h = record { some = h; most = fitted_depth v.elem (constant v) n h h }

pub place_typed_depth : (ps : Parts) (e : Option Elem) → HasDepth (place_typed ps e) (max 1 (parts_depth ps))
place_typed_depth ps None = untyped_depth (max 1 (parts_depth ps)) (omega arith)
place_typed_depth ps (Some e) = record { some = omega arith; most = fitted_depth e (stored ps) (max 1 (parts_depth ps)) (omega arith) (omega arith) }

constant_or_depth : (x : Typed) (n : ℕ) (v : Option Value) → HasDepth x n → HasDepth (constant_or x v) n
constant_or_depth x n None h = h
constant_or_depth x n (Some v) h = named_depth v n h.some

step_value_depth : (root : Composition) (name : List ℕ) (part : Option Bool) → HasDepth (step_value root name part) 1
step_value_depth root name None = untyped_depth 1 (omega arith)
step_value_depth root name (Some is_time) = by (has_step root name) where
  by : (b : Bool) → HasDepth (if b then record { own = Some (step_elem is_time); as_type = fitted (step_elem is_time) (of_step is_time name) } else untyped) 1
  by true = record { some = omega arith; most = fitted_depth (step_elem is_time) (of_step is_time name) 1 (omega arith) (omega arith) }
  by false = untyped_depth 1 (omega arith)

part_depth : (root : Composition) (name part : List ℕ) (e : Option Elem) → HasDepth (part_or_step root name part e) (max 1 (parts_depth (field_part name (field_part part whole))))
part_depth root name part None = step_value_depth root name (step_part part)
part_depth root name part (Some e) = place_typed_depth (field_part name (field_part part whole)) (Some e)

pub variable_depth : (w : Whole) (ps : Parts) → HasDepth (variable_typed w ps) (max 1 (parts_depth ps))
variable_depth w whole = place_typed_depth whole (type_of w.variables whole)
variable_depth w (field_part name whole) =
    constant_or_depth (place_typed (field_part name whole) (type_of w.variables (field_part name whole))) (max 1 0) (w.constants name) (place_typed_depth (field_part name whole) (type_of w.variables (field_part name whole)))
variable_depth w (field_part name (field_part part whole)) = part_depth w.variables name part (type_of w.variables (field_part name (field_part part whole)))
variable_depth w (field_part name (field_part part (field_part other ps))) =
    place_typed_depth (field_part name (field_part part (field_part other ps))) (type_of w.variables (field_part name (field_part part (field_part other ps))))
variable_depth w (field_part name (field_part part (element_part line ts ps))) =
    place_typed_depth (field_part name (field_part part (element_part line ts ps))) (type_of w.variables (field_part name (field_part part (element_part line ts ps))))
variable_depth w (field_part name (element_part line ts ps)) = place_typed_depth (field_part name (element_part line ts ps)) (type_of w.variables (field_part name (element_part line ts ps)))
variable_depth w (element_part line ts ps) = place_typed_depth (element_part line ts ps) (type_of w.variables (element_part line ts ps))

-- ---- operators

pub prefixed_depth : (o : Unary) (x : Typed) (n : ℕ) → HasDepth x n → HasDepth (prefixed o x) n
prefixed_depth o x n h = record { some = h.some; most = λ t. by t (takes_one o t) } where
  by : (t : Elem) (b : Bool) → term_depth (if b then unary o (x.as_type t) else nil t) ≤ n
  by t true = h.most t
  by t false = h.some

combined_depth : (o : Binary) (line : ℕ) (a b : Typed) (m n : ℕ) → HasDepth a m → HasDepth b n → HasDepth (combined o line a b) (max m (1 + n))
combined_depth o line a b m n h k = record { some = omega arith; most = λ t. by t (takes_two o t) } where
  by : (t : Elem) (c : Bool) → term_depth (if c then binary o line (a.as_type t) (b.as_type t) else nil t) ≤ max m (1 + n)
  by t true = omega (arith, h.most t, k.most t)
  by t false = omega arith

compared_depth : (o : BinOp) (line : ℕ) (a b : Typed) (m n : ℕ) → HasDepth a m → HasDepth b n → HasDepth (compared o line a b) (max m (1 + n))
compared_depth o line a b m n h k =
    let e = or_lint (first_own (a.own ∷ b.own ∷ [])) in
    record { some = omega arith; most = fitted_depth elems.Bool (binary (binaries.Operator o) line (a.as_type e) (b.as_type e)) (max m (1 + n)) (omega arith) (omega (arith, h.most e, k.most e)) }

pub joined_depth : (o : BinOp) (line : ℕ) (a b : Typed) (m n : ℕ) → HasDepth a m → HasDepth b n → HasDepth (joined o line a b) (max m (1 + n))
joined_depth o line a b m n h k = by (is_comparison o) where
  by : (c : Bool) → HasDepth (if c then compared o line a b else combined (binaries.Operator o) line a b) (max m (1 + n))
  by true = compared_depth o line a b m n h k
  by false = combined_depth (binaries.Operator o) line a b m n h k

pub chained_depth : (x : Typed) (n : ℕ) (fs : List (Typed → Typed)) (ds : List ℕ) → HasDepth x n → AddDepths fs ds → HasDepth (chained x fs) (max n (most ds))
chained_depth x n [] [] h adds = more_depth x n (max n 0) h (omega arith)
chained_depth x n [] (d ∷ ds) h adds = absurd adds
chained_depth x n (f ∷ fs) [] h adds = absurd adds
chained_depth x n (f ∷ fs) (d ∷ ds) h adds =
    more_depth (chained (f x) fs) (max (max n d) (most ds)) (max n (max d (most ds))) (chained_depth (f x) (max n d) fs ds (adds.0 x n h) adds.1) (omega arith)

-- ---- standard functions and conversions

-- expressions with their depths
abbrev Deep : Type 0
Deep = (x : Typed) × (d : ℕ) × HasDepth x d

abbrev typed_in : List Deep → List Typed
typed_in zs = map (λ z. z.0) zs

abbrev depths_in : List Deep → List ℕ
depths_in zs = map (λ z. z.1) zs

combined_all_depth : (o : Binary) (x : Typed) (n m : ℕ) (zs : List Deep) → HasDepth x n → n ≤ m → in_turn false 1 (depths_in zs) ≤ m → HasDepth (combined_all o x (typed_in zs)) m
combined_all_depth o x n m [] h le rest = more_depth x n m h le
combined_all_depth o x n m (z ∷ zs) h le rest =
    combined_all_depth o (combined o 0 x z.0) (max n (1 + z.1)) m zs (combined_depth o 0 x z.0 n z.1 h z.2) (omega (arith, le, rest)) (omega (arith, rest))

shifted_depth : (o : Binary) (x y : Typed) (m n : ℕ) → HasDepth x m → HasDepth y n → HasDepth (shifted o x y) (max m (1 + n))
shifted_depth o x y m n h k = record { some = omega arith; most = λ t. by t (takes_two o t) } where
  by : (t : Elem) (c : Bool) → term_depth (if c then binary o 0 (x.as_type t) (alone y) else nil t) ≤ max m (1 + n)
  by t true = omega (arith, h.most t, k.most (or_lint y.own))
  by t false = omega arith

selected_depth : (g x y : Typed) (l m n : ℕ) → HasDepth g l → HasDepth x m → HasDepth y n → HasDepth (selected g x y) (max l (max (1 + m) (2 + n)))
selected_depth g x y l m n h k j = record { some = omega arith; most = λ t. omega (arith, h.most elems.Bool, k.most t, j.most t) }

-- what isn't an expression of one value
no_depth : (n : ℕ) → HasDepth untyped (max 1 n)
no_depth n = untyped_depth (max 1 n) (omega arith)

shift_depth : (o : Binary) (x y : Deep) → HasDepth (shifted o x.0 y.0) (max 1 (in_turn false 0 (x.1 ∷ y.1 ∷ [])))
shift_depth o x y = more_depth (shifted o x.0 y.0) (max x.1 (1 + y.1)) (max 1 (in_turn false 0 (x.1 ∷ y.1 ∷ []))) (shifted_depth o x.0 y.0 x.1 y.1 x.2 y.2) (omega arith)

function_depth : (f : StandardFunction) (zs : List Deep) → HasDepth (function_typed f (typed_in zs)) (max 1 (in_turn (is_choice (Some (standards.Function f))) 0 (depths_in zs)))
function_depth functions.Abs (x ∷ []) = more_depth (prefixed unaries.Absolute x.0) x.1 (max 1 (in_turn false 0 (x.1 ∷ []))) (prefixed_depth unaries.Absolute x.0 x.1 x.2) (omega arith)
function_depth functions.Min (x ∷ ys) = combined_all_depth binaries.Least x.0 x.1 (max 1 (in_turn false 0 (x.1 ∷ depths_in ys))) ys x.2 (omega arith) (omega arith)
function_depth functions.Max (x ∷ ys) = combined_all_depth binaries.Greatest x.0 x.1 (max 1 (in_turn false 0 (x.1 ∷ depths_in ys))) ys x.2 (omega arith) (omega arith)
function_depth functions.Limit (low ∷ x ∷ high ∷ []) =
    let inner = combined binaries.Greatest 0 low.0 x.0 in
    let deep = combined_depth binaries.Greatest 0 low.0 x.0 low.1 x.1 low.2 x.2 in
    more_depth (combined binaries.Least 0 inner high.0) (max (max low.1 (1 + x.1)) (1 + high.1)) (max 1 (in_turn false 0 (low.1 ∷ x.1 ∷ high.1 ∷ [])))
    (combined_depth binaries.Least 0 inner high.0 (max low.1 (1 + x.1)) high.1 deep high.2) (omega arith)
function_depth functions.Sel (g ∷ x ∷ y ∷ []) =
    more_depth (selected g.0 x.0 y.0) (max g.1 (max (1 + x.1) (2 + y.1))) (max 1 (in_turn true 0 (g.1 ∷ x.1 ∷ y.1 ∷ []))) (selected_depth g.0 x.0 y.0 g.1 x.1 y.1 g.2 x.2 y.2) (omega arith)
function_depth functions.Shl (x ∷ y ∷ []) = shift_depth binaries.ShiftLeft x y
function_depth functions.Shr (x ∷ y ∷ []) = shift_depth binaries.ShiftRight x y
function_depth functions.Rol (x ∷ y ∷ []) = shift_depth binaries.RotateLeft x y
function_depth functions.Ror (x ∷ y ∷ []) = shift_depth binaries.RotateRight x y
function_depth f zs = no_depth (in_turn (is_choice (Some (standards.Function f))) 0 (depths_in zs))

converted_depth : (from to : Elem) (zs : List Deep) → HasDepth (converted from to (typed_in zs)) (max 1 (in_turn false 0 (depths_in zs)))
converted_depth from to (x ∷ []) = record {
  some = omega arith;
  most = fitted_depth to (unary (unaries.Convert to) (x.0.as_type from)) (max 1 (in_turn false 0 (x.1 ∷ []))) (omega arith) (omega (arith, x.2.most from));
}
converted_depth from to zs = no_depth (in_turn false 0 (depths_in zs))

-- the two lists beside each other
record AreBeside (xs : List Typed) (ds : List ℕ) : Type 0 where
  zs : List Deep
  typed : typed_in zs ≡ xs
  depths : depths_in zs ≡ ds

beside : (xs : List Typed) (ds : List ℕ) → HaveDepths xs ds → AreBeside xs ds
beside [] [] hs = record { zs = []; typed = refl; depths = refl }
beside [] (d ∷ ds) hs = absurd hs
beside (x ∷ xs) [] hs = absurd hs
beside (x ∷ xs) (d ∷ ds) hs =
    let more = beside xs ds hs.1 in record { zs = (x, d, hs.0) ∷ more.zs; typed = ap (λ ys. x ∷ ys) more.typed; depths = ap (λ es. d ∷ es) more.depths }

function_deep : (f : StandardFunction) (xs : List Typed) (ds : List ℕ) → HaveDepths xs ds → HasDepth (function_typed f xs) (max 1 (in_turn (is_choice (Some (standards.Function f))) 0 ds))
function_deep f xs ds hs =
    let both = beside xs ds hs in
    subst (λ ys. HasDepth (function_typed f ys) (max 1 (in_turn (is_choice (Some (standards.Function f))) 0 ds))) both.typed
    (subst (λ es. HasDepth (function_typed f (typed_in both.zs)) (max 1 (in_turn (is_choice (Some (standards.Function f))) 0 es))) both.depths (function_depth f both.zs))

converted_deep : (from to : Elem) (xs : List Typed) (ds : List ℕ) → HaveDepths xs ds → HasDepth (converted from to xs) (max 1 (in_turn false 0 ds))
converted_deep from to xs ds hs =
    let both = beside xs ds hs in
    subst (λ ys. HasDepth (converted from to ys) (max 1 (in_turn false 0 ds))) both.typed
    (subst (λ es. HasDepth (converted from to (typed_in both.zs)) (max 1 (in_turn false 0 es))) both.depths (converted_depth from to both.zs))

-- ---- functions of the text

unnamed_one : (name : Option (List ℕ)) (b : Bool) (x : Typed) (d : ℕ) (xs : List Typed) (ds : List ℕ) → is_some name ≡ b → HasDepth x d → HaveDepths xs ds
    → HaveDepths (typing.unnamed_before name x xs) (unnamed_before b d ds)
unnamed_one None true x d xs ds e h hs = absurd cc
unnamed_one None false x d xs ds e h hs = (h, hs)
unnamed_one (Some name) true x d xs ds e h hs = hs
unnamed_one (Some name) false x d xs ds e h hs = absurd cc

unnamed_deep : (xs : List Passed) (cs : List Cells) → PassDepths xs cs → HaveDepths (unnamed xs) (unnamed_cells cs)
unnamed_deep [] [] hs = tt
unnamed_deep [] (c ∷ cs) hs = absurd hs
unnamed_deep (x ∷ xs) [] hs = absurd hs
unnamed_deep (x ∷ xs) (c ∷ cs) hs = unnamed_one x.name c.named x.value c.cells (unnamed xs) (unnamed_cells cs) hs.0.named hs.0.deep (unnamed_deep xs cs hs.1)

input_deep : (x : Typed) (d : ℕ) (i : Option Input) → HasDepth x d → term_depth (as_input x i) ≤ d
input_deep x d None h = h.most (or_lint x.own)
input_deep x d (Some i) h = h.most i.initial.elem

arguments_deep : (is : List Input) (place below : ℕ) (xs : List Passed) (cs : List Cells) → PassDepths xs cs
    → below + terms_depth (arguments_from is place xs) ≤ max below (in_turn true below (all_cells cs))
arguments_deep is place below [] [] hs = omega arith
arguments_deep is place below [] (c ∷ cs) hs = absurd hs
arguments_deep is place below (x ∷ xs) [] hs = absurd hs
arguments_deep is place below (x ∷ xs) (c ∷ cs) hs =
    omega (arith, input_deep x.value c.cells (input_at is (goes_to is place x.name)) hs.0.deep, hs.0.deep.some, arguments_deep is (suc place) (1 + below) xs cs hs.1)

many_passed : (is : List Input) (place : ℕ) (xs : List Passed) (cs : List Cells) → PassDepths xs cs → how_many (arguments_from is place xs) ≡ length cs
many_passed is place [] [] hs = refl
many_passed is place [] (c ∷ cs) hs = absurd hs
many_passed is place (x ∷ xs) [] hs = absurd hs
many_passed is place (x ∷ xs) (c ∷ cs) hs = let more = many_passed is (suc place) xs cs hs.1 in omega (arith, more)

many_sources : (places : List (Option ℕ)) (n : ℕ) (is : List Input) → length (sources_from places n is) ≡ length is
many_sources places n [] = refl
many_sources places n (i ∷ is) = ap suc (many_sources places (suc n) is)

above_them : (arguments : ℕ) (sources : List Source) → call_depth arguments sources ≤ 1 + arguments + length sources
above_them arguments sources = by (are_in_order arguments 0 sources) where
  by : (b : Bool) → (if b then 1 else (1 + arguments + length sources)) ≤ 1 + arguments + length sources
  by true = omega arith
  by false = omega arith

called_deep : (line inputs : ℕ) (f : Option Called) (xs : List Passed) (cs : List Cells) → ((g : Called) → f ≡ Some g → length g.inputs ≤ inputs) → PassDepths xs cs
    → HasDepth (function_called line f xs) (called_cells inputs None cs)
called_deep line inputs None xs cs few hs = untyped_depth (called_cells inputs None cs) (omega arith)
called_deep line inputs (Some f) xs cs few hs =
    let ts = arguments_from f.inputs 0 xs in
    let sources = sources_from (go_to f.inputs 0 xs) 0 f.inputs in
    let above : term_depth (call line f.number f.result ts sources) ≤ called_cells inputs None cs =
    omega (arith, arguments_deep f.inputs 0 0 xs cs hs, above_them (how_many ts) sources, many_passed f.inputs 0 xs cs hs, many_sources (go_to f.inputs 0 xs) 0 f.inputs, few f refl) in
    record { some = omega arith; most = fitted_depth f.result (call line f.number f.result ts sources) (called_cells inputs None cs) (omega arith) above }

pub call_typed_depth : (w : Whole) (inputs : ℕ) → TakeAtMost w inputs → (line : ℕ) (name : List ℕ) (s : Option Standard) (xs : List Passed) (cs : List Cells) → PassDepths xs cs
    → HasDepth (call_typed w line name s xs) (called_cells inputs s cs)
call_typed_depth w inputs few line name (Some (standards.Function f)) xs cs hs = function_deep f (unnamed xs) (unnamed_cells cs) (unnamed_deep xs cs hs)
call_typed_depth w inputs few line name (Some (standards.Conversion from to)) xs cs hs = converted_deep from to (unnamed xs) (unnamed_cells cs) (unnamed_deep xs cs hs)
call_typed_depth w inputs few line name (Some (standards.Block b)) xs cs hs = no_depth (in_turn false 0 (unnamed_cells cs))
call_typed_depth w inputs few line name None xs cs hs = called_deep line inputs (w.functions name) xs cs (λ g h. few name g h) hs

-- ---- lists

terms_depth_above : (below : ℕ) (xs : List Typed) (ds : List ℕ) → HaveDepths xs ds → below + terms_depth (terms_of xs) ≤ max below (in_turn true below ds)
terms_depth_above below [] [] hs = omega arith
terms_depth_above below [] (d ∷ ds) hs = absurd hs
terms_depth_above below (x ∷ xs) [] hs = absurd hs
terms_depth_above below (x ∷ xs) (d ∷ ds) hs = omega (arith, hs.0.most (or_lint x.own), hs.0.some, terms_depth_above (1 + below) xs ds hs.1)

pub terms_of_depth : (xs : List Typed) (ds : List ℕ) → HaveDepths xs ds → terms_depth (terms_of xs) ≤ in_turn true 0 ds
terms_of_depth xs ds hs = omega (arith, terms_depth_above 0 xs ds hs)

pub through_depth : (fs : List (Parts → Parts)) (ds : List ℕ) → PutDepths fs ds → parts_depth (through fs) ≤ most ds
through_depth [] [] puts = omega arith
through_depth [] (d ∷ ds) puts = absurd puts
through_depth (f ∷ fs) [] puts = absurd puts
through_depth (f ∷ fs) (d ∷ ds) puts = omega (arith, puts.0 (through fs), through_depth fs ds puts.1)

pub append_depths : (xs ys : List Passed) (ds es : List Cells) → PassDepths xs ds → PassDepths ys es → PassDepths (xs ++ ys) (ds ++ es)
append_depths [] ys [] es hs ks = ks
append_depths [] ys (d ∷ ds) es hs ks = absurd hs
append_depths (x ∷ xs) ys [] es hs ks = absurd hs
append_depths (x ∷ xs) ys (d ∷ ds) es hs ks = (hs.0, append_depths xs ys ds es hs.1 ks)
