-- Parts of what variables consist of.
use Rattle.std.proofs.Common.{◌≡◌, ℕ, ◌+◌, ◌<◌, ◌≤◌, ◌==◌, Bool, true, false, not, if◌then◌else◌, List, [], ◌∷◌, ◌++◌, length, take, drop, get_or, refl, sym, ap, subst, ◌∙◌, arith, add-one}
use Rattle.std.specs.Prelude.{Option, Some, None, ◌&&◌}
use Rattle.std.proofs.lemmas.Bool.Decides.{Decides-eqb}
use Rattle.st_values.specs.Words.{is_word}
use Rattle.st_values.specs.declared.elem.Elem.{Elem}
use Rattle.st_tree.specs.declared.tree.expression.Expression.{Expression}
use Rattle.st_tree.specs.declared.tree.expression.Part.{Part, fold_out-Part, map-Part, out-Part}
use Rattle.st_tree.specs.declared.tree.expression.Part.TheVariants as selectors
use Rattle.st_tree.specs.declared.tree.position.Identifier.{Identifier}
use Rattle.st_tree.specs.declared.tree.position.Position.{Position}
use Rattle.st_types.specs.Compositions.{Composition, unknown, elementary, array, composed, standard, Members, none, member}
use Rattle.st_types.specs.Standard.{Pin, pin_named, pins_of}
use Rattle.st_leaves.specs.Bounds.{HasBounds}
use Rattle.st_leaves.specs.Places.{count, extent}
use Rattle.st_leaves.specs.Selected.{element_of, member_selected, pin_selected, selected_by, subscripts_of, takes_subscripts}
use Rattle.st_meaning.specs.Offsets.{HasSmallArrays, HaveSmallArrays, IsSmall, offset_of}
use Rattle.st_meaning.proofs.SmallArrays.{not_less, some_elements}
use Rattle.st_meaning.proofs.Stretches.{selected_fits}
use Rattle.st_meaning.specs.Sound.{is_fixed}
use Rattle.st_meaning.specs.Terms.{Parts, whole, field_part, element_part, how_many}
use Rattle.st_meaning.specs.Typing.{argument_typed, call_typed_in, operation_typed, part_typed, place_of, typed, typed_part}
use Rattle.st_meaning.specs.Wholes.{Whole, type_of}
use Rattle.st_code.specs.Code.{base_of}
use Rattle.st_code.proofs.Parts.{named_bounds}
use Rattle.st_emit_expressions.specs.Emits.{terms_in}
use Rattle.std.specs.Prelude.{◌||◌}
use Rattle.st_emit_expressions.specs.Places.{IsStop, IsTaken, behind_part, behind_parts, indexed_by, is_indexed}
use Rattle.st_emit_expressions.specs.declared.places.Stop.{Stop}
use Rattle.std.specs.Prelude.{IsTrue}
use Rattle.std.specs.Option.{is_some}
use Rattle.std.proofs.Math.Nat.{eq-or-lt_of_le}
use Rattle.std.proofs.Math.ListN.{get_or-append}
use Rattle.std.proofs.Math.Seq.{get_or-append_seam, take-suc}
use Rattle.st_places.specs.Parts.{IsNodeOf, TablesView, is_array, part_in}
use Rattle.st_emit_expressions.specs.declared.places.Taken.{Taken}
use Rattle.st_emit_expressions.proofs.Trees.{field_is, left_is, place_is, subscripts_are}
use Rattle.std.proofs.Common.{◌⊎◌, inl, inr}
use Rattle.st_tree.specs.declared.tree.expression.Argument.TheOpen.{Part-F}
use Rattle.st_tree.specs.declared.tree.expression.Argument.{Argument}
use Rattle.st_tree.specs.declared.tree.expression.Call.{Call}
use Rattle.st_tree.specs.declared.tree.expression.Operation.{Operation}
use Rattle.st_tree.specs.declared.tree.expression.Variable.{Variable, out-Variable}
use Rattle.st_emit_expressions.specs.Trees.{constant_in, parts_in}

-- ---- members

member_arrays : (ms : Members) (n : List ℕ) → HaveSmallArrays ms → HasSmallArrays (member_selected ms n)
member_arrays none n h = tt
member_arrays (member other kind c ms) n h = by (is_word other n) (member_arrays ms n h.1) where
  by : (b : Bool) → HasSmallArrays (member_selected ms n) → HasSmallArrays (if b then c else member_selected ms n)
  by true more = h.0
  by false more = more

pin_arrays : (o : Option Pin) → HasSmallArrays (pin_selected o)
pin_arrays None = tt
pin_arrays (Some p) = tt

selected_arrays : (c : Composition) (n : List ℕ) → HasSmallArrays c → HasSmallArrays (selected_by c n)
selected_arrays unknown n h = tt
selected_arrays (elementary v) n h = tt
selected_arrays (array ranges firsts c) n h = tt
selected_arrays (composed name ms chart) n h = member_arrays ms n h
selected_arrays (standard b) n h = pin_arrays (pin_named (pins_of b) n)

pub selected_small : (c : Composition) (n : List ℕ) → IsSmall c → IsSmall (selected_by c n)
selected_small c n h = record { bounds = named_bounds c n h.bounds; arrays = selected_arrays c n h.arrays; few = omega (arith, selected_fits c n, h.few) }

-- ---- elements

pub element_fits : (c : Composition) → HasBounds c → count (element_of c) ≤ count c
element_fits unknown h = omega arith
element_fits (elementary v) h = omega arith
element_fits (array ranges firsts c) h = not_less (extent ranges) (count c) (some_elements ranges h.0)
element_fits (composed name ms chart) h = omega arith
element_fits (standard b) h = omega arith

pub element_bounds : (c : Composition) → HasBounds c → HasBounds (element_of c)
element_bounds unknown h = tt
element_bounds (elementary v) h = tt
element_bounds (array ranges firsts c) h = h.1
element_bounds (composed name ms chart) h = tt
element_bounds (standard b) h = tt

element_arrays : (c : Composition) → HasSmallArrays c → HasSmallArrays (element_of c)
element_arrays unknown h = tt
element_arrays (elementary v) h = tt
element_arrays (array ranges firsts c) h = h.1
element_arrays (composed name ms chart) h = tt
element_arrays (standard b) h = tt

pub element_small : (c : Composition) → IsSmall c → IsSmall (element_of c)
element_small c h = record { bounds = element_bounds c h.bounds; arrays = element_arrays c h.arrays; few = omega (arith, element_fits c h.bounds, h.few) }

-- ---- subscripts

pub counted_terms : (w : Whole) (xs : List Expression) → how_many (terms_in w xs) ≡ length xs
counted_terms w [] = refl
counted_terms w (y ∷ xs) = omega (arith, counted_terms w xs)

pub takes_as_many : (c : Composition) (n : ℕ) → is_array c ≡ true → n ≡ length (subscripts_of c) → takes_subscripts c n ≡ true
takes_as_many unknown n h e = absurd (cc)
takes_as_many (elementary v) n h e = absurd (cc)
takes_as_many (array ranges firsts c) n h e = (Decides-eqb n (length ranges)).1 e
takes_as_many (composed name ms chart) n h e = absurd (cc)
takes_as_many (standard b) n h e = absurd (cc)

pub takes_no_other : (c : Composition) (n : ℕ) → (n ≡ length (subscripts_of c) → ⊥) → takes_subscripts c n ≡ false
takes_no_other unknown n f = refl
takes_no_other (elementary v) n f = refl
takes_no_other (array ranges firsts c) n f = by (n == length ranges) refl where
  by : (b : Bool) → (n == length ranges) ≡ b → (n == length ranges) ≡ false
  by true e = absurd (f ((Decides-eqb n (length ranges)).0 e))
  by false e = e
takes_no_other (composed name ms chart) n f = refl
takes_no_other (standard b) n f = refl

-- ---- what parts select

no_type : (ps : Parts) → type_of unknown ps ≡ None
no_type whole = refl
no_type (field_part name ps) = no_type ps
no_type (element_part line ts ps) = refl

pub lost_field : (w : Whole) (c : Composition) (p : Part) (n : Identifier) (name : List ℕ) → p ≡ selectors.Field n → name ≡ n.spelling → selected_by c name ≡ unknown
    → (rest : Parts) → type_of c (part_typed w p rest) ≡ None
lost_field w c p n name e f g rest =
    ap (λ x. type_of c (part_typed w x rest)) e ∙ ap (type_of c) (field_is w n rest) ∙ ap (λ d. type_of d rest) (ap (selected_by c) (sym f) ∙ g) ∙ no_type rest

pub lost_element : (w : Whole) (c : Composition) (p : Part) (at : Position) (xs : List Expression) → p ≡ selectors.Subscripts at xs → takes_subscripts c (length xs) ≡ false
    → (rest : Parts) → type_of c (part_typed w p rest) ≡ None
lost_element w c p at xs e g rest =
    ap (λ x. type_of c (part_typed w x rest)) e ∙ ap (type_of c) (subscripts_are w at xs rest)
    ∙ ap (λ b. if b then type_of (element_of c) rest else None) (ap (takes_subscripts c) (counted_terms w xs) ∙ g)

or_false : (b : Bool) → b ≡ (b || false)
or_false true = refl
or_false false = refl

or_true : (b : Bool) → true ≡ (b || true)
or_true true = refl
or_true false = refl

pub field_taken : (w : Whole) (tables : TablesView) (c : Composition) (p : Part) (n : Identifier) (name : List ℕ) (t : Taken) → p ≡ selectors.Field n → name ≡ n.spelling → IsSmall c → IsNodeOf tables t.node
    → part_in tables t.node ≡ selected_by c name → t.before ≡ offset_of c name → t.is_member ≡ true → IsTaken w tables c p t
field_taken w tables c p n name t e f small node part before is_member =
    let part' : part_in tables t.node ≡ selected_by c n.spelling = part ∙ ap (selected_by c) f in
    let is : (rest : Parts) → part_typed w p rest ≡ field_part n.spelling rest = λ rest. ap (λ x. part_typed w x rest) e ∙ field_is w n rest in
    record {
      node = node;
      small = subst IsSmall (sym part) (selected_small c name small);
      part = part' ∙ ap (behind_part c) (sym (is whole));
      type = λ rest. ap (type_of c) (is rest) ∙ ap (λ d. type_of d rest) (sym part');
      base = λ rest. ap (base_of c) (is rest) ∙ ap (λ k. k + base_of (selected_by c n.spelling) rest) (ap (offset_of c) (sym f) ∙ sym before) ∙ ap (λ d. t.before + base_of d rest) (sym part');
      fixed = λ rest. ap is_fixed (is rest) ∙ ap (λ b. b && is_fixed rest) (sym is_member);
      indexed = λ before. ap (indexed_by before) (is whole) ∙ or_false before ∙ ap (λ b. before || not b) (sym is_member);
      fits = subst (λ k. k ≤ count c) (ap (λ k. k + count (selected_by c name)) (sym before) ∙ ap (λ d. t.before + count d) (sym part)) (selected_fits c name);
    }

none_before : (k n : ℕ) → n ≡ 0 → k ≡ n + k
none_before k n e = omega arith

pub element_taken : (w : Whole) (tables : TablesView) (c : Composition) (p : Part) (at : Position) (xs : List Expression) (t : Taken) → p ≡ selectors.Subscripts at xs → takes_subscripts c (length xs) ≡ true → IsSmall c → IsNodeOf tables t.node
    → part_in tables t.node ≡ element_of c → t.before ≡ 0 → t.is_member ≡ false → IsTaken w tables c p t
element_taken w tables c p at xs t e takes small node part before is_member =
    let is : (rest : Parts) → part_typed w p rest ≡ element_part at.line (terms_in w xs) rest = λ rest. ap (λ x. part_typed w x rest) e ∙ subscripts_are w at xs rest in
    record {
      node = node;
      small = subst IsSmall (sym part) (element_small c small);
      part = part ∙ ap (behind_part c) (sym (is whole));
      type = λ rest. ap (type_of c) (is rest) ∙ ap (λ b. if b then type_of (element_of c) rest else None) (ap (takes_subscripts c) (counted_terms w xs) ∙ takes) ∙ ap (λ d. type_of d rest) (sym part);
      base = λ rest. ap (base_of c) (is rest) ∙ ap (λ d. base_of d rest) (sym part) ∙ none_before (base_of (part_in tables t.node) rest) t.before before;
      fixed = λ rest. ap is_fixed (is rest) ∙ ap (λ b. b && is_fixed rest) (sym is_member);
      indexed = λ before. ap (indexed_by before) (is whole) ∙ or_true before ∙ ap (λ b. before || not b) (sym is_member);
      fits = omega (arith, element_fits c small.bounds, ap count part, before);
    }

-- ---- the way of a variable

no_whole : (w : Whole) (x : Part-F Argument Expression Part Call Operation Variable) (name : List ℕ) (rest : Parts)
    → constant_in w (field_part name (typed_part (map-Part _ _ _ _ _ _ _ _ _ _ _ _ (argument_typed w) (typed w) (part_typed w) (call_typed_in w) (operation_typed w) (place_of w) x) rest)) ≡ None
no_whole w (Part-F.Field n) name rest = refl
no_whole w (Part-F.Subscripts p xs) name rest = refl

pub no_constant : (w : Whole) (v : Variable) (ps : List Part) → ps ≡ (out-Variable v).parts → (ps ≡ [] → ⊥) → constant_in w (place_of w v) ≡ None
no_constant w v [] e f = absurd (f refl)
no_constant w v (p ∷ ps) e f =
    ap (constant_in w) (place_is w v ∙ ap (λ l. field_part (out-Variable v).name.spelling (parts_in w l)) (sym e))
    ∙ ap (λ (g : Parts → Parts). constant_in w (field_part (out-Variable v).name.spelling (g (parts_in w ps)))) (fold_out-Part _ _ _ _ _ _ _ _ _ _ _ _ p)
    ∙ no_whole w (out-Part p) (out-Variable v).name.spelling (parts_in w ps)

pub named_constant : (w : Whole) (v : Variable) (ps : List Part) (name : List ℕ) → ps ≡ (out-Variable v).parts → ps ≡ [] → name ≡ (out-Variable v).name.spelling → w.constants name ≡ constant_in w (place_of w v)
named_constant w v ps name e f g =
    ap w.constants g ∙ ap (λ l. constant_in w (field_part (out-Variable v).name.spelling (parts_in w l))) (sym f ∙ e) ∙ ap (constant_in w) (sym (place_is w v))

pub start_is : (w : Whole) (v : Variable) (name : List ℕ) (ps : List Part) → name ≡ (out-Variable v).name.spelling → ps ≡ (out-Variable v).parts → place_of w v ≡ field_part name (parts_in w ps)
start_is w v name ps e f = place_is w v ∙ ap (λ n. field_part n (parts_in w (out-Variable v).parts)) (sym e) ∙ ap (λ l. field_part name (parts_in w l)) (sym f)

pub lost_start : (w : Whole) (v : Variable) (name : List ℕ) → name ≡ (out-Variable v).name.spelling → selected_by w.variables name ≡ unknown → None ≡ type_of w.variables (place_of w v)
lost_start w v name e f =
    sym (no_type (parts_in w (out-Variable v).parts)) ∙ ap (λ d. type_of d (parts_in w (out-Variable v).parts)) (sym f) ∙ ap (type_of w.variables) (sym (start_is w v name (out-Variable v).parts e refl))

pub and_both : (a b c d : Bool) → ((a ≡ true) × (c ≡ b)) ⊎ ((a ≡ false) × (c ≡ false)) → (c && d) ≡ (a && (b && d))
and_both true b c d (inl h) = ap (λ x. x && d) h.1
and_both false b c d (inl h) = absurd (cc (h.0))
and_both true b c d (inr h) = absurd (cc (h.0))
and_both false b c d (inr h) = ap (λ x. x && d) h.1

-- ---- what stands before each part

pub must_be : {A : Type 0} (o : Option A) → IsTrue (is_some o) → None ≡ o → ⊥
must_be None h e = absurd (cc)
must_be (Some x) h e = absurd (cc)

behind_snoc : (w : Whole) (c : Composition) (ps : List Part) (p : Part) → behind_parts w c (ps ++ p ∷ []) ≡ behind_part (behind_parts w c ps) (part_typed w p whole)
behind_snoc w c [] p = refl
behind_snoc w c (q ∷ ps) p = behind_snoc w (behind_part c (part_typed w q whole)) ps p

indexed_snoc : (w : Whole) (b : Bool) (ps : List Part) (p : Part) → is_indexed w b (ps ++ p ∷ []) ≡ indexed_by (is_indexed w b ps) (part_typed w p whole)
indexed_snoc w b [] p = refl
indexed_snoc w b (q ∷ ps) p = indexed_snoc w (indexed_by b (part_typed w q whole)) ps p

pub behind_more : (w : Whole) (c : Composition) (ps : List Part) (i : ℕ) (p : Part) → i < length ps → p ≡ get_or ps i p → behind_parts w c (take (i + 1) ps) ≡ behind_part (behind_parts w c (take i ps)) (part_typed w p whole)
behind_more w c ps i p h e = rw add-one (ap (behind_parts w c) (take-suc ps i p h ∙ ap (λ x. take i ps ++ x ∷ []) (sym e)) ∙ behind_snoc w c (take i ps) p)

pub indexed_more : (w : Whole) (b : Bool) (ps : List Part) (i : ℕ) (p : Part) → i < length ps → p ≡ get_or ps i p → is_indexed w b (take (i + 1) ps) ≡ indexed_by (is_indexed w b (take i ps)) (part_typed w p whole)
indexed_more w b ps i p h e = rw add-one (ap (is_indexed w b) (take-suc ps i p h ∙ ap (λ x. take i ps ++ x ∷ []) (sym e)) ∙ indexed_snoc w b (take i ps) p)

pub first_stop : (w : Whole) (tables : TablesView) (v : Variable) (name : List ℕ) (ps : List Part) (s : Stop) → name ≡ (out-Variable v).name.spelling → ps ≡ (out-Variable v).parts → IsSmall w.variables → IsNodeOf tables s.node
    → part_in tables s.node ≡ selected_by w.variables name → s.is_indexed ≡ false
    → IsStop w tables (type_of w.variables (place_of w v)) (selected_by w.variables (out-Variable v).name.spelling) [] ps s
first_stop w tables v name ps s e f small node part indexed = record {
  node = node;
  small = subst IsSmall (sym part) (selected_small w.variables name small);
  part = part ∙ ap (selected_by w.variables) e;
  indexed = indexed;
  same = ap (λ d. type_of d (parts_in w ps)) part ∙ ap (type_of w.variables) (sym (start_is w v name ps e f));
}

pub next_stop : (w : Whole) (tables : TablesView) (type : Option Elem) (c : Composition) (ps : List Part) (i : ℕ) (p : Part) (s n : Stop) (t : Taken) → i < length ps → p ≡ get_or ps i p
    → IsStop w tables type c (take i ps) (drop i ps) s → IsTaken w tables (part_in tables s.node) p t → n.node ≡ t.node → n.is_indexed ≡ (s.is_indexed || not t.is_member)
    → IsStop w tables type c (take (i + 1) ps) (drop (i + 1) ps) n
next_stop w tables type c ps i p s n t h e is taken node indexed = record {
  node = subst (λ x. IsNodeOf tables x) (sym node) taken.node;
  small = subst (λ x. IsSmall (part_in tables x)) (sym node) taken.small;
  part = ap (part_in tables) node ∙ taken.part ∙ ap (λ d. behind_part d (part_typed w p whole)) is.part ∙ sym (behind_more w c ps i p h e);
  indexed = indexed ∙ sym (taken.indexed s.is_indexed) ∙ ap (λ b. indexed_by b (part_typed w p whole)) is.indexed ∙ sym (indexed_more w false ps i p h e);
  same = ap (λ x. type_of (part_in tables x) (parts_in w (drop (i + 1) ps))) node ∙ sym (taken.type (parts_in w (drop (i + 1) ps)))
      ∙ ap (type_of (part_in tables s.node)) (sym (left_is w ps i p h e)) ∙ is.same;
}

earlier_or : (i m : ℕ) → i ≤ m → (i < m) ⊎ (i ≡ m)
earlier_or i m h = by (eq-or-lt_of_le h) where
  by : (i ≡ m) ⊎ (i < m) → (i < m) ⊎ (i ≡ m)
  by (inl k) = inr k
  by (inr k) = inl k

pub one_more_stop : (P : ℕ → Stop → Type 0) (n : ℕ) (old new : List Stop) (s : Stop) → length old ≡ n → new ≡ old ++ s ∷ [] → P n s
    → ((i : ℕ) (x : Stop) → i < n → x ≡ get_or old i x → P i x) → (i : ℕ) (x : Stop) → i < n + 1 → x ≡ get_or new i x → P i x
one_more_stop P n old new s len e here each i x h q = by (earlier_or i n (omega arith)) where
  by : (i < n) ⊎ (i ≡ n) → P i x
  by (inl k) = let lt : i < length old = omega arith in each i x k (q ∙ ap (λ l. get_or l i x) e ∙ get_or-append old (s ∷ []) x i lt)
  by (inr k) =
      let same : x ≡ s = q ∙ ap (λ l. get_or l i x) e ∙ ap (λ m. get_or (old ++ s ∷ []) m x) (k ∙ sym len) ∙ get_or-append_seam old s [] x in
      subst (λ m. P m x) (sym k) (subst (P n) (sym same) here)
