-- The code of places.
use Rattle.std.proofs.Common.{◌≡◌, ℕ, suc, ◌+◌, ◌-◌, ◌*◌, ◌^◌, ◌<◌, ◌≤◌, ◌&&◌, Bool, true, false, if◌then◌else◌, nat_le, ℤ, pos, negsuc, List, [], ◌∷◌, ◌++◌, length, Option, Some, None, refl, sym, ap, ◌∙◌, subst, arith, length-append}
use Rattle.std.specs.Prelude.{◌-ℤ◌, slice_get}
use Rattle.std.specs.List.{All}
use Rattle.std.proofs.Math.Nat.{add-mul, mul-le-mul_right, mul_assoc}
use Rattle.std.proofs.lemmas.Bool.{leb-true}
use Rattle.std.proofs.lemmas.List.Elements.{All-head, All-tail}
use Rattle.st_values.specs.Words.{is_word}
use Rattle.st_values.specs.declared.elem.Elem.{Elem}
use Rattle.st_values.specs.declared.value.Value.{Value}
use Rattle.st_tree.specs.declared.tree.constant.Constant.{Constant}
use Rattle.st_tree.specs.declared.tree.declaration.Subrange.{Subrange}
use Rattle.st_types.specs.Compositions.{Composition, unknown, elementary, array, composed, standard, Members, none, member}
use Rattle.st_types.specs.Standard.{Pin, pin_named, pins_of}
use Rattle.st_leaves.specs.Bounds.{HasBounds, HaveBounds, IsBounded}
use Rattle.st_tree.specs.Literals.{number_of}
use Rattle.st_leaves.specs.Paths.{Path, field, index}
use Rattle.st_leaves.specs.Places.{IsDistance, no_more, above, IsMember, here, later, IsPart, first, behind, LeadsTo, end, element, into, pin, count, counts, extent, extent_of}
use Rattle.st_leaves.specs.Selected.{member_selected, pin_selected, selected_by}
use Rattle.st_operators.specs.Laws.{IsOf}
use Rattle.st_meaning.specs.Meaning.{Calls, Values, are_within, is_within, located, numbers_in, when_within}
use Rattle.st_meaning.specs.Offsets.{member_offset, offset_of, pin_offset}
use Rattle.st_meaning.specs.Operations.{Answer, gives, stops, stop, then_with}
use Rattle.st_meaning.specs.Sound.{is_fixed, types_in}
use Rattle.st_meaning.specs.Statements.{faulted}
use Rattle.st_meaning.specs.Terms.{Parts, whole, field_part, element_part, Terms}
use Rattle.st_meaning.specs.Wholes.{type_of}
use Rattle.st_meaning.specs.declared.fault.RunFaultKind.TheVariants as faults
use Rattle.st_code.specs.Code.{Line, added, at, base_of, cell_of, index_code, terms_code}
use Rattle.st_code.specs.Machine.{State, act, ends, goes, indexed, puts_distance, state, stuck}
use Rattle.st_code.specs.declared.instr.Instr.{Instr}
use Rattle.st_code.specs.declared.instr.Instr.TheVariants.{Push, Index, IndexBelow, Add}
use Rattle.st_code.proofs.Cells.{above_bound, below_bound, distance_above, number_of_value, some_extent}
use Rattle.st_code.proofs.Steps.{AreOf, Ends, HasAt, Leads, PlaceRuns, TermsRun, World, halt, has_back, has_front, if_below, if_false, if_true, leads_on, line_of, onto, over, stays, step}

-- ---- members

member_is : (ms : Members) (name : List ℕ) (path : Path) (k : ℕ) → LeadsTo (member_selected ms name) path k → IsMember name ms (member_offset ms name)
    (member_selected ms name)
member_is none name path k l = elim l [ ]
member_is (member other kind c ms) name path k l = chosen (is_word other name) refl l (λ l'. member_is ms name path k l') where
  chosen : (b : Bool) → is_word other name ≡ b → LeadsTo (if b then c else member_selected ms name) path k
      → (LeadsTo (member_selected ms name) path k → IsMember name ms (member_offset ms name) (member_selected ms name))
      → IsMember name (member other kind c ms) (if b then 0 else (count c + member_offset ms name)) (if b then c else member_selected ms name)
  chosen true e l' further = here e
  chosen false e l' further = later e (further l')

pin_is : (pins : List Pin) (name : List ℕ) (path : Path) (k : ℕ) → LeadsTo (pin_selected (pin_named pins name)) path k → IsPart (λ p. p.name)
    (λ p. 1) name pins (pin_offset pins name)
pin_is [] name path k l = elim l [ ]
pin_is (p ∷ pins) name path k l = chosen (is_word p.name name) refl l (λ l'. pin_is pins name path k l') where
  chosen : (b : Bool) → is_word p.name name ≡ b → LeadsTo (pin_selected (if b then Some p else pin_named pins name)) path k
      → (LeadsTo (pin_selected (pin_named pins name)) path k → IsPart (λ q. q.name) (λ q. 1) name pins (pin_offset pins name))
      → IsPart (λ q. q.name) (λ q. 1) name (p ∷ pins) (if b then 0 else (1 + pin_offset pins name))
  chosen true e l' further = first e
  chosen false e l' further = behind e (further l')

-- a pin is one value
pin_ends : (o : Option Pin) (path : Path) (k : ℕ) → LeadsTo (pin_selected o) path k → (path ≡ []) × (k ≡ 0)
pin_ends None path k l = elim l [ ]
pin_ends (Some p) path k end = (refl, refl)

-- into what a name selects
named_leads : (c : Composition) (name : List ℕ) (path : Path) (k : ℕ) → LeadsTo (selected_by c name) path k → LeadsTo c (field name ∷ path) (offset_of c name + k)
named_leads unknown name path k l = elim l [ ]
named_leads (elementary v) name path k l = elim l [ ]
named_leads (array ranges firsts c) name path k l = elim l [ ]
named_leads (composed whole' ms chart) name path k l = into (member_is ms name path k l) l
named_leads (standard b) name path k l =
    let ends' = pin_ends (pin_named (pins_of b) name) path k l in
    let sum : pin_offset (pins_of b) name ≡ pin_offset (pins_of b) name + k = omega (arith, ends'.1) in
    subst (λ p. LeadsTo (standard b) (field name ∷ p) (pin_offset (pins_of b) name + k)) (sym ends'.0)
    (subst (λ m. LeadsTo (standard b) (field name ∷ []) m) sum (pin (pin_is (pins_of b) name path k l)))

members_bounds : (ms : Members) (name : List ℕ) → HaveBounds ms → HasBounds (member_selected ms name)
members_bounds none name h = tt
members_bounds (member other kind c ms) name h = chosen (is_word other name) (members_bounds ms name h.1) where
  chosen : (b : Bool) → HasBounds (member_selected ms name) → HasBounds (if b then c else member_selected ms name)
  chosen true further = h.0
  chosen false further = further

pin_bounds : (o : Option Pin) → HasBounds (pin_selected o)
pin_bounds None = tt
pin_bounds (Some p) = tt

pub named_bounds : (c : Composition) (name : List ℕ) → HasBounds c → HasBounds (selected_by c name)
named_bounds unknown name h = tt
named_bounds (elementary v) name h = tt
named_bounds (array ranges firsts c) name h = tt
named_bounds (composed whole' ms chart) name h = members_bounds ms name h
named_bounds (standard b) name h = pin_bounds (pin_named (pins_of b) name)

-- ---- sizes

-- an element stands among those of its array
distance_few : (size : ℕ) (rs : List Subrange) (is : List ℤ) (d : ℕ) → IsDistance size rs is d → d + size ≤ extent rs * size
distance_few size rs is d no_more = omega arith
distance_few size (r ∷ rs) (i ∷ is) d (above {far = far} {d = k} lt e more) =
    let further = distance_few size rs is k more in
    let below : (far + 1) * (extent rs * size) ≤ extent_of r * (extent rs * size) = mul-le-mul_right (extent rs * size) (omega (arith, lt)) in
    let next : (far + 1) * (extent rs * size) ≡ far * (extent rs * size) + extent rs * size = add-mul far 1 (extent rs * size) ∙ omega arith in
    omega (arith, further, below, next, mul_assoc (extent_of r) (extent rs) size)

-- there are no more elements behind one number of the first subscript
rest_few : (size : ℕ) (r : Subrange) (rs : List Subrange) → IsBounded r → extent rs * size ≤ extent (r ∷ rs) * size
rest_few size r rs bounded =
    let below : 1 * (extent rs * size) ≤ extent_of r * (extent rs * size) = mul-le-mul_right (extent rs * size) (some_extent r bounded) in
    omega (arith, below, mul_assoc (extent_of r) (extent rs) size)

member_few : (ms : Members) (name : List ℕ) → count (member_selected ms name) ≤ counts ms
member_few none name = omega arith
member_few (member other kind c ms) name = chosen (is_word other name) (member_few ms name) where
  chosen : (b : Bool) → count (member_selected ms name) ≤ counts ms → count (if b then c else member_selected ms name) ≤ count c + counts ms
  chosen true further = omega arith
  chosen false further = omega (arith, further)

pin_few : (pins : List Pin) (name : List ℕ) → count (pin_selected (pin_named pins name)) ≤ length pins
pin_few [] name = omega arith
pin_few (p ∷ pins) name = chosen (is_word p.name name) (pin_few pins name) where
  chosen : (b : Bool) → count (pin_selected (pin_named pins name)) ≤ length pins → count (pin_selected (if b then Some p else pin_named pins name)) ≤ length (p ∷ pins)
  chosen true further = omega arith
  chosen false further = omega (arith, further)

-- what a name selects is no larger
pub named_few : (c : Composition) (name : List ℕ) → count (selected_by c name) ≤ count c
named_few unknown name = omega arith
named_few (elementary v) name = omega arith
named_few (array ranges firsts c) name = omega arith
named_few (composed whole' ms chart) name = omega (arith, member_few ms name)
named_few (standard b) name = omega (arith, pin_few (pins_of b) name)

and_true : (a : Bool) → a ≡ (a && true)
and_true true = refl
and_true false = refl

and_false : (a : Bool) → false ≡ (a && false)
and_false true = refl
and_false false = refl

pub over_length : (more : Bool) (acc : ℕ) (stack : List ℤ) → length (over more acc stack) ≤ 1 + length stack
over_length true acc stack = omega arith
over_length false acc stack = omega arith

-- ---- places without subscripts

-- the path of a place, and its leaf
pub record IsFound (calls : Calls) (root c : Composition) (values : Values) (ps : Parts) (left : ℕ) : Type 0 where
  pub path : Path
  pub found : located calls root values c ps left ≡ gives path left
  pub leads : LeadsTo c path (base_of c ps)

pub fixed_found : (calls : Calls) (root : Composition) (values : Values) (ps : Parts) (left : ℕ) (c : Composition) (e : Elem) → type_of c ps ≡ Some e → is_fixed ps ≡ true
    → IsFound calls root c values ps left
fixed_found calls root values whole left (elementary v) e t h = record { path = []; found = refl; leads = end }
fixed_found calls root values whole left unknown e t h = absurd (cc)
fixed_found calls root values whole left (array ranges firsts c) e t h = absurd (cc)
fixed_found calls root values whole left (composed n ms chart) e t h = absurd (cc)
fixed_found calls root values whole left (standard b) e t h = absurd (cc)
fixed_found calls root values (field_part name ps) left c e t h =
    let f = fixed_found calls root values ps left (selected_by c name) e t h in
    record { path = field name ∷ f.path; found = ap (λ a. then_with a (λ path n. gives (field name ∷ path) n)) f.found; leads = named_leads c name f.path (base_of (selected_by c name) ps) f.leads }
fixed_found calls root values (element_part line ts ps) left c e t h = absurd (cc)

-- whether a distance stands on the stack behind a place
abbrev pub has_distance : Bool → Parts → Bool
has_distance more whole = more
has_distance more (field_part name ps) = has_distance more ps
has_distance more (element_part line ts ps) = has_distance true ps

pub keeps_distance : (ps : Parts) → has_distance true ps ≡ true
keeps_distance whole = refl
keeps_distance (field_part name ps) = keeps_distance ps
keeps_distance (element_part line ts ps) = keeps_distance ps

pub gives_distance : (ps : Parts) → is_fixed ps ≡ false → has_distance false ps ≡ true
gives_distance whole h = absurd (cc)
gives_distance (field_part name ps) h = gives_distance ps h
gives_distance (element_part line ts ps) h = keeps_distance ps

module _ (w : World) where
  pub place_from : (s t : State) (pc pc' : ℕ) (there : Bool) (stack : List ℤ) (values : Values) (acc : ℕ) (c : Composition) (n : ℕ) (a : Answer Path) → Leads w s t
      → pc ≡ pc'
      → PlaceRuns w t pc there stack values acc c n a → PlaceRuns w s pc' there stack values acc c n a
  place_from s t pc pc' there stack values acc c n (gives path left) l e r =
      (r.0, r.1, leads_on w s t _ l (subst (λ q. Leads w t (state q (over there (acc + r.0) stack) values left)) e r.2))
  place_from s t pc pc' there stack values acc c n (stops f) l e r = l.by (faulted f) r

  -- ---- subscripts

  -- their distance is put, or one lies outside its bounds
  abbrev IndexRuns : State → ℕ → List ℤ → Values → ℕ → ℕ → ℕ → List Subrange → List ℤ → Bool → Type 0
  IndexRuns s pc stack values left line size rs is true = (d : ℕ) × IsDistance size rs is d × Leads w s (state pc (pos d ∷ stack) values left)
  IndexRuns s pc stack values left line size rs is false = Ends w (faulted (stop faults.IndexOutOfRange line)) s

  subscript_run : (s : State) (pc line size stride d : ℕ) (i : Instr) (top : List ℤ) (r : Subrange) (x : ℤ) (rs : List Subrange) (is : List ℤ) (stack : List ℤ)
      (values : Values) (left : ℕ)
      → Leads w s (state pc top values left) → slice_get w.code pc ≡ Some (line_of line i)
      → act w.env w.room i line pc top values left ≡ indexed (x -ℤ number_of r.lower) (extent_of r - 1) stride d line pc stack values left
      → stride ≡ extent rs * size → IsDistance size rs is d → IsBounded r → extent (r ∷ rs) * size ≤ 999999
      → IndexRuns s (pc + 1) stack values left line size (r ∷ rs) (x ∷ is) (is_within r x)
  subscript_run s pc line size stride d i top r x rs is stack values left l h acts strides dist bounded few = from (x -ℤ number_of r.lower) refl where
    from_far : (far : ℕ) (b : Bool) → x -ℤ number_of r.lower ≡ pos far → nat_le far (extent_of r - 1) ≡ b → IndexRuns s (pc + 1) stack values left line size (r ∷ rs)
        (x ∷ is) b
    from_far far true e f =
        let some = some_extent r bounded in
        let le = leb-true far (extent_of r - 1) f in
        let lt : far < extent_of r = omega (arith, le, some) in
        let times : far * stride ≡ far * (extent rs * size) = ap (λ m. far * m) strides in
        let sum : d + far * stride ≡ far * (extent rs * size) + d = omega (arith, times) in
        let dist' : IsDistance size (r ∷ rs) (x ∷ is) (far * (extent rs * size) + d) = above lt (distance_above r x far e) dist in
        let small : d + far * stride < 2 ^ 63 = omega (arith, sum, few, distance_few size (r ∷ rs) (x ∷ is) (far * (extent rs * size) + d) dist') in (
          far * (extent rs * size) + d,
          dist',
          leads_on w s (state pc top values left) _ l
              (step w i line pc top values left _ h
              (acts ∙ ap (λ z. indexed z (extent_of r - 1) stride d line pc stack values left) e
              ∙ if_true (nat_le far (extent_of r - 1)) (puts_distance (d + far * stride) pc stack values left) (ends (faulted (stop faults.IndexOutOfRange line))) f
              ∙ if_below (d + far * stride) (2 ^ 63) (goes (state (pc + 1) (pos (d + far * stride) ∷ stack) values left)) stuck small
              ∙ ap (λ m. goes (state (pc + 1) (pos m ∷ stack) values left)) sum)),
        )
    from_far far false e f =
        l.by (faulted (stop faults.IndexOutOfRange line))
        (halt w i line pc top values left _ h
        (acts ∙ ap (λ z. indexed z (extent_of r - 1) stride d line pc stack values left) e
        ∙ if_false (nat_le far (extent_of r - 1)) (puts_distance (d + far * stride) pc stack values left) (ends (faulted (stop faults.IndexOutOfRange line))) f))

    from : (z : ℤ) → x -ℤ number_of r.lower ≡ z → IndexRuns s (pc + 1) stack values left line size (r ∷ rs) (x ∷ is) (is_within r x)
    from (pos far) e =
        subst (λ b. IndexRuns s (pc + 1) stack values left line size (r ∷ rs) (x ∷ is) b) (sym (above_bound r x far bounded e)) (from_far far (nat_le far (extent_of r - 1)) e refl)
    from (negsuc n) e =
        subst (λ b. IndexRuns s (pc + 1) stack values left line size (r ∷ rs) (x ∷ is) b) (sym (below_bound r x n e))
        (l.by (faulted (stop faults.IndexOutOfRange line))
        (halt w i line pc top values left _ h (acts ∙ ap (λ z. indexed z (extent_of r - 1) stride d line pc stack values left) e)))

  -- the last subscript
  last_run : (pc line size : ℕ) (e : Elem) (r : Subrange) (x : Value) (stack : List ℤ) (values : Values) (left : ℕ) → IsOf e x → IsBounded r
      → extent (r ∷ []) * size ≤ 999999
      → slice_get w.code pc ≡ Some (line_of line (Index e (extent_of r - 1) size (number_of r.lower)))
      → IndexRuns (state pc (cell_of x.bits ∷ stack) values left) (pc + 1) stack values left line size (r ∷ []) (x.bits ∷ []) (is_within r x.bits && true)
  last_run pc line size e r x stack values left of bounded few h =
      let one : size ≡ 1 * size = omega arith in
      subst (λ b. IndexRuns (state pc (cell_of x.bits ∷ stack) values left) (pc + 1) stack values left line size (r ∷ []) (x.bits ∷ []) b) (and_true (is_within r x.bits))
      (subscript_run (state pc (cell_of x.bits ∷ stack) values left) pc line size size 0 (Index e (extent_of r - 1) size (number_of r.lower)) (cell_of x.bits ∷ stack) r x.bits [] [] stack values left
      (stays w _ _ refl) h (ap (λ z. indexed (z -ℤ number_of r.lower) (extent_of r - 1) size 0 line pc stack values left) (number_of_value e x of)) one no_more bounded few)

  -- one below others
  below_run : (s : State) (pc line size : ℕ) (e : Elem) (r : Subrange) (x : Value) (rs : List Subrange) (is : List ℤ) (stack : List ℤ) (values : Values) (left : ℕ)
      (b : Bool) → IsOf e x → IsBounded r → extent (r ∷ rs) * size ≤ 999999
      → slice_get w.code pc ≡ Some (line_of line (IndexBelow e (extent_of r - 1) (extent rs * size) (number_of r.lower)))
      → IndexRuns s pc (cell_of x.bits ∷ stack) values left line size rs is b
      → IndexRuns s (pc + 1) stack values left line size (r ∷ rs) (x.bits ∷ is) (is_within r x.bits && b)
  below_run s pc line size e r x rs is stack values left false of bounded few h g =
      subst (λ b. IndexRuns s (pc + 1) stack values left line size (r ∷ rs) (x.bits ∷ is) b) (and_false (is_within r x.bits)) g
  below_run s pc line size e r x rs is stack values left true of bounded few h g =
      subst (λ b. IndexRuns s (pc + 1) stack values left line size (r ∷ rs) (x.bits ∷ is) b) (and_true (is_within r x.bits))
      (subscript_run s pc line size (extent rs * size) g.0 (IndexBelow e (extent_of r - 1) (extent rs * size) (number_of r.lower)) (pos g.0 ∷ cell_of x.bits ∷ stack) r x.bits rs is stack values left
      g.2 h (ap (λ z. indexed (z -ℤ number_of r.lower) (extent_of r - 1) (extent rs * size) g.0 line pc stack values left) (number_of_value e x of)) refl g.1 bounded few)

  some_run : (line size : ℕ) (es : List Elem) (r : Subrange) (rs : List Subrange) (xs : Values) (pc : ℕ) (stack : List ℤ) (values : Values) (left : ℕ)
      → length es ≡ suc (length rs) → AreOf es xs
      → All IsBounded (r ∷ rs) → extent (r ∷ rs) * size ≤ 999999 → HasAt w.code pc (index_code line size es (r ∷ rs))
      → IndexRuns (state pc (onto xs stack) values left) (pc + length (index_code line size es (r ∷ rs))) stack values left line size (r ∷ rs) (numbers_in xs)
      (are_within (r ∷ rs) (numbers_in xs))
  some_run line size [] r rs xs pc stack values left n of bounded few has = absurd (omega (arith, n))
  some_run line size (e ∷ es) r rs [] pc stack values left n of bounded few has = absurd of
  some_run line size (e ∷ []) r [] (x ∷ []) pc stack values left n of bounded few has = last_run pc line size e r x stack values left of.0 (All-head IsBounded r [] bounded) few has.0
  some_run line size (e ∷ []) r [] (x ∷ y ∷ xs) pc stack values left n of bounded few has = absurd of.1
  some_run line size (e ∷ f ∷ es) r [] (x ∷ xs) pc stack values left n of bounded few has = absurd (omega (arith, n))
  some_run line size (e ∷ es) r (q ∷ rs) (x ∷ xs) pc stack values left n of bounded few has =
      let others = index_code line size es (q ∷ rs) in
      let i = IndexBelow e (extent_of r - 1) (extent (q ∷ rs) * size) (number_of r.lower) in
      let len : pc + length others + 1 ≡ pc + length (others ++ at line i) = omega (arith, length-append others (at line i)) in
      subst (λ p. IndexRuns (state pc (onto xs (cell_of x.bits ∷ stack)) values left) p stack values left line size (r ∷ q ∷ rs) (numbers_in (x ∷ xs)) (are_within (r ∷ q ∷ rs) (numbers_in (x ∷ xs)))) len
      (below_run _ (pc + length others) line size e r x (q ∷ rs) (numbers_in xs) stack values left (are_within (q ∷ rs) (numbers_in xs)) of.0 (All-head IsBounded r (q ∷ rs) bounded) few
      (has_back w.code pc others (at line i) has).0
      (some_run line size es q rs xs pc (cell_of x.bits ∷ stack) values left (omega (arith, n)) of.1 (All-tail IsBounded r (q ∷ rs) bounded) (omega (arith, few, rest_few size r (q ∷ rs) (All-head IsBounded r (q ∷ rs) bounded))) (has_front w.code pc others (at line i) has)))

  index_run : (line size : ℕ) (es : List Elem) (rs : List Subrange) (xs : Values) (pc : ℕ) (stack : List ℤ) (values : Values) (left : ℕ) → length es ≡ length rs
      → AreOf es xs
      → All IsBounded rs → extent rs * size ≤ 999999 → length stack < w.room → HasAt w.code pc (index_code line size es rs)
      → IndexRuns (state pc (onto xs stack) values left) (pc + length (index_code line size es rs)) stack values left line size rs (numbers_in xs)
      (are_within rs (numbers_in xs))
  index_run line size [] [] [] pc stack values left n of bounded few room has =
      (0, no_more, step w (Push (pos 0)) 0 pc stack values left _ has.0 (if_below (length stack) w.room (goes (state (pc + 1) (pos 0 ∷ stack) values left)) stuck room))
  index_run line size [] [] (x ∷ xs) pc stack values left n of bounded few room has = absurd of
  index_run line size (e ∷ es) [] xs pc stack values left n of bounded few room has = absurd (omega (arith, n))
  index_run line size es (r ∷ rs) xs pc stack values left n of bounded few room has = some_run line size es r rs xs pc stack values left n of bounded few has

  -- ---- elements

  -- a distance is added to the one that stood there
  add_run : (more : Bool) (acc d pc : ℕ) (stack : List ℤ) (values : Values) (left : ℕ) → (more ≡ false → acc ≡ 0) → acc + d ≤ 999999 → HasAt w.code pc (added more)
      → Leads w (state pc (pos d ∷ over more acc stack) values left) (state (pc + length (added more)) (pos (acc + d) ∷ stack) values left)
  add_run true acc d pc stack values left z few has =
      step w Add 0 pc (pos d ∷ pos acc ∷ stack) values left _ has.0 (if_below (acc + d) (2 ^ 63) (goes (state (pc + 1) (pos (acc + d) ∷ stack) values left)) stuck (omega (arith, few)))
  add_run false acc d pc stack values left z few has =
      let sum : d ≡ acc + d = omega (arith, z refl) in
      let len : pc ≡ pc + 0 = omega arith in
      stays w _ _ (ap (λ p. state p (pos d ∷ stack) values left) len ∙ ap (λ n. state (pc + 0) (pos n ∷ stack) values left) sum)

  further_run : (s t : State) (pc acc : ℕ) (there : Bool) (stack : List ℤ) (values : Values) (rs : List Subrange) (firsts : List (Option Constant))
      (c : Composition) (is : List ℤ) (d n : ℕ) (a : Answer Path)
      → IsDistance (count c) rs is d → Leads w s t → PlaceRuns w t pc there stack values (acc + d) c n a
      → PlaceRuns w s pc there stack values acc (array rs firsts c) n (then_with a (λ path m. gives (index is ∷ path) m))
  further_run s t pc acc there stack values rs firsts c is d n (stops f) dist l r = l.by (faulted f) r
  further_run s t pc acc there stack values rs firsts c is d n (gives path left) dist l r =
      let k : d + (n + r.0) ≡ n + (d + r.0) = omega arith in
      let j : acc + d + r.0 ≡ acc + (d + r.0) = omega arith in (
        d + r.0,
        subst (λ m. LeadsTo (array rs firsts c) (index is ∷ path) m) k (element dist r.1),
        subst (λ m. Leads w s (state pc (over there m stack) values left)) j (leads_on w s t _ l r.2),
      )

  -- where the subscripts lie within their bounds
  within_run : (line pc pc2 acc : ℕ) (more there : Bool) (stack : List ℤ) (values : Values) (left : ℕ) (rs : List Subrange) (firsts : List (Option Constant))
      (c : Composition) (is : List ℤ) (n : ℕ) (s : State) (b : Bool) (a : Answer Path)
      → (more ≡ false → acc ≡ 0) → acc + extent rs * count c ≤ 999999 → IndexRuns s pc (over more acc stack) values left line (count c) rs is b
      → HasAt w.code pc (added more)
      → ((d : ℕ) → acc + d + count c ≤ 999999 → PlaceRuns w (state (pc + length (added more)) (pos (acc + d) ∷ stack) values left) pc2 there stack values (acc + d) c n a)
      → PlaceRuns w s pc2 there stack values acc (array rs firsts c) n (if b then then_with a (λ path m. gives (index is ∷ path) m) else stops (stop faults.IndexOutOfRange line))
  within_run line pc pc2 acc more there stack values left rs firsts c is n s false a z few r has go = r
  within_run line pc pc2 acc more there stack values left rs firsts c is n s true a z few r has go =
      let among = distance_few (count c) rs is r.0 r.1 in
      further_run s _ pc2 acc there stack values rs firsts c is r.0 n a r.1 (leads_on w s _ _ r.2 (add_run more acc r.0 pc stack values left z (omega (arith, few, among)) has)) (go r.0 (omega (arith, few, among)))

  -- a list of subscripts, and what follows
  pub group_run : (line : ℕ) (ts : Terms) (more : Bool) (acc : ℕ) (rs : List Subrange) (firsts : List (Option Constant)) (c : Composition) (xs : Answer Values) (pc n : ℕ)
      (rest : List Line) (there : Bool) (stack : List ℤ) (values : Values) (left : ℕ) (a : ℕ → Answer Path)
      → (more ≡ false → acc ≡ 0) → length (types_in w.root ts) ≡ length rs → All IsBounded rs → acc + extent rs * count c ≤ 999999 → length stack + 2 ≤ w.room
      → HasAt w.code pc ((terms_code w.root ts ++ (index_code line (count c) (types_in w.root ts) rs ++ added more)) ++ rest)
      → (HasAt w.code pc (terms_code w.root ts) → TermsRun w (state pc (over more acc stack) values left) (pc + length (terms_code w.root ts)) (types_in w.root ts) (over more acc stack) values xs)
      → ((pc' d k : ℕ) → acc + d + count c ≤ 999999 → HasAt w.code pc' rest → PlaceRuns w (state pc' (pos (acc + d) ∷ stack) values k) (pc' + length rest) there stack values (acc + d) c n (a k))
      → PlaceRuns w (state pc (over more acc stack) values left)
      (pc + length ((terms_code w.root ts ++ (index_code line (count c) (types_in w.root ts) rs ++ added more)) ++ rest)) there stack values acc (array rs firsts c) n
      (then_with xs (λ ys k. when_within line rs (numbers_in ys) (then_with (a k) (λ path m. gives (index (numbers_in ys) ∷ path) m))))
  group_run line ts more acc rs firsts c (stops f) pc n rest there stack values left a z e bounded few room has rt go = rt (has_front w.code pc (terms_code w.root ts) _ (has_front w.code pc _ rest has))
  group_run line ts more acc rs firsts c (gives ys k) pc n rest there stack values left a z e bounded few room has rt go =
      let ct = terms_code w.root ts in
      let ci = index_code line (count c) (types_in w.root ts) rs in
      let tail = ci ++ added more in
      let q = pc + length ct in
      let at_head = has_front w.code pc (ct ++ tail) rest has in
      let at_tail = has_back w.code pc ct tail at_head in
      let r = rt (has_front w.code pc ct tail at_head) in
      let m = q + length ci + length (added more) in
      let head : pc + length (ct ++ tail) ≡ m = omega (arith, length-append ct tail, length-append ci (added more)) in
      let at_rest = subst (λ p. HasAt w.code p rest) head (has_back w.code pc (ct ++ tail) rest has) in
      let len : m + length rest ≡ pc + length ((ct ++ tail) ++ rest) = omega (arith, length-append (ct ++ tail) rest, length-append ct tail, length-append ci (added more)) in
      let space : length (over more acc stack) < w.room = omega (arith, over_length more acc stack) in
      place_from (state pc (over more acc stack) values left) (state q (onto ys (over more acc stack)) values k) (m + length rest) _ there stack values acc (array rs firsts c) n _ r.1 len
      (within_run line (q + length ci) _ acc more there stack values k rs firsts c (numbers_in ys) n _ (are_within rs (numbers_in ys)) (a k) z few
      (index_run line (count c) (types_in w.root ts) rs ys q (over more acc stack) values k e r.0 bounded (omega (arith, few)) space (has_front w.code q ci (added more) at_tail))
      (has_back w.code q ci (added more) at_tail)
      (λ d small. go m d k small at_rest))

  -- a name, and what follows
  pub field_run : (c : Composition) (name : List ℕ) (s : State) (pc acc k : ℕ) (there : Bool) (stack : List ℤ) (values : Values) (a : Answer Path)
      → PlaceRuns w s pc there stack values acc (selected_by c name) k a
      → PlaceRuns w s pc there stack values acc c (offset_of c name + k) (then_with a (λ path m. gives (field name ∷ path) m))
  field_run c name s pc acc k there stack values (stops f) r = r
  field_run c name s pc acc k there stack values (gives path left) r =
      let sum : offset_of c name + (k + r.0) ≡ offset_of c name + k + r.0 = omega arith in
      (r.0, subst (λ m. LeadsTo c (field name ∷ path) m) sum (named_leads c name path (k + r.0) r.1), r.2)
