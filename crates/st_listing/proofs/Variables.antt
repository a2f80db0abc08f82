-- The variables of a program, listed one after the other, and then its chart.
use Rattle.std.proofs.Common.{◌≡◌, ℕ, suc, ◌+◌, ◌<◌, ◌≤◌, Bool, false, List, [], ◌∷◌, ◌++◌, Some, Result, Ok, Err, OnOk, codes, drop, get_or, length, map, refl, ap, sym, ◌∙◌, subst, arith, length-append}
use Rattle.std.proofs.lemmas.List.Elements.{All-cons, All-head, All-tail}
use Rattle.st_values.specs.Words.{AreWordBytes}
use Rattle.st_tree.specs.declared.tree.declaration.DeclaredType.TheVariants as declared_types
use Rattle.st_tree.specs.declared.tree.declaration.VarKind.{VarKind}
use Rattle.st_tree.specs.declared.tree.declaration.VarKind.TheVariants as var_kinds
use Rattle.st_types.specs.Compositions.{Composition, composition_of, composition_within}
use Rattle.st_types.specs.Names.{Declared, Declares, Named, chart_in, unit_at, variables_of}
use Rattle.st_types.specs.Names as names
use Rattle.st_types.specs.declared.base.Base.{Base}
use Rattle.st_leaves.specs.Charts.{stored_of}
use Rattle.st_leaves.specs.LeavesIn.{LeafIn, as_input, leaves_of_whole, used_as, within}
use Rattle.st_leaves.specs.LeavesIn as leaves
use Rattle.st_leaves.specs.Paths.{HasWords, field}
use Rattle.st_chart_parts.specs.Charts.{ChartView, leaves_of_parts, parts_of}
use Rattle.st_chart_parts.proofs.UnitCharts.{leaves_are}
use Rattle.st_chart_parts.proofs.Units.{names_of_unit, unit_item}
use Rattle.st_scopes.specs.Declarations.{names_at, names_in}
use Rattle.st_tree.specs.Kinds.{is_input, is_constant}
use Rattle.st_listing.specs.Listings.{AreWays, ListingView, as_inputs, inside, listed, outside}
use Rattle.st_listing.specs.Members.{MemberView, declared_of}
use Rattle.st_listing.specs.Walks.{ListsTheSame, declared_leaves, variable_leaves}
use Rattle.st_listing.proofs.Listings.{length_listed, listed_inputs, listed_twice, listed_within, ways_append, ways_none, ways_within}
use Rattle.st_listing.proofs.MemberLists.{drop_one}
use Rattle.st_listing.proofs.Walks.{other_variable, variables_more, with_chart}

abbrev pub program : List ℕ
program = codes "PROGRAM"

-- ---- one variable

same_view : (s : ListingView) → s.is_input ≡ false → as_inputs s false ≡ s
same_view s off = ap (λ b. record { leaves = s.leaves; text = s.text; spine = s.spine; is_input = b }) (sym off)

no_inputs : (s : ListingView) (ls : List LeafIn) → s.is_input ≡ false → as_inputs (listed (as_inputs s false) ls) false ≡ listed s ls
no_inputs s ls off = ap (λ v. as_inputs (listed v ls) false) (same_view s off) ∙ same_view (listed s ls) off

used_listed : (kind : VarKind) (s : ListingView) (ls : List LeafIn) → s.is_input ≡ false → as_inputs (listed (as_inputs s (is_input kind)) ls) false ≡ listed s (used_as kind ls)
used_listed var_kinds.Input s ls off = listed_inputs s ls off
used_listed var_kinds.Internal s ls off = no_inputs s ls off
used_listed var_kinds.Constant s ls off = no_inputs s ls off
used_listed var_kinds.Output s ls off = no_inputs s ls off

ways_used : (kind : VarKind) (ls : List LeafIn) → AreWays ls → AreWays (used_as kind ls)
ways_used var_kinds.Input [] ways = ways_none
ways_used var_kinds.Input (l ∷ ls) ways =
    All-cons (λ l. HasWords l.path) (record { path = l.path; spine = l.spine; initial = l.initial; use' = as_input l.use' }) (used_as var_kinds.Input ls) (All-head (λ l. HasWords l.path) l ls ways)
    (ways_used var_kinds.Input ls (All-tail (λ l. HasWords l.path) l ls ways))
ways_used var_kinds.Internal ls ways = ways
ways_used var_kinds.Constant ls ways = ways
ways_used var_kinds.Output ls ways = ways

module _ (units : List Named) (depth : ℕ) (v : Declared) (other : is_constant v.kind ≡ false) where
  pub variable_listed : (s entered used inner back new : ListingView) (name : List ℕ) (mark : ℕ) (b : Bool) → s.is_input ≡ false → b ≡ is_input v.kind → mark ≡ length s.text → name ≡ v.name.spelling
      → entered ≡ inside s (field name) program → used ≡ as_inputs entered b → inner ≡ listed used (declared_leaves units depth v) → back ≡ as_inputs inner false → new ≡ outside back mark
      → new ≡ listed s (variable_leaves units depth program (v ∷ []))
  variable_listed s entered used inner back new name mark b off kind marked named enters uses lists goes_back leaves_it =
      let ls = declared_leaves units depth v in
      let inputs : inner ≡ listed (as_inputs (inside s (field name) program) (is_input v.kind)) ls =
      lists ∙ ap (λ x. listed x ls) (uses ∙ ap (as_inputs entered) kind ∙ ap (λ x. as_inputs x (is_input v.kind)) enters) in
      let all : back ≡ listed (inside s (field name) program) (used_as v.kind ls) = goes_back ∙ ap (λ x. as_inputs x false) inputs ∙ used_listed v.kind (inside s (field name) program) ls off in
      leaves_it ∙ ap (outside back) marked ∙ ap (λ x. outside x (length s.text)) all ∙ listed_within s (field name) program (used_as v.kind ls)
      ∙ ap (λ n. listed s (within (field n) program (used_as v.kind ls))) named ∙ ap (listed s) (sym (other_variable units depth program v other))

  pub variable_ways : (name : List ℕ) → name ≡ v.name.spelling → AreWordBytes name → AreWays (declared_leaves units depth v) → AreWays (variable_leaves units depth program (v ∷ []))
  variable_ways name named word ways =
      subst AreWays (sym (other_variable units depth program v other))
      (ways_within (field v.name.spelling) program (used_as v.kind (declared_leaves units depth v)) (subst AreWordBytes named word) (ways_used v.kind (declared_leaves units depth v) ways))

-- ---- one after the other

pub variables_left : (units : List Named) (depth : ℕ) (ms : List MemberView) (i : ℕ) (m : MemberView) → i < length ms → m ≡ get_or ms i m
    → variable_leaves units depth program (declared_of (drop i ms)) ≡ variable_leaves units depth program (m.declared ∷ []) ++ variable_leaves units depth program (declared_of (drop (i + 1) ms))
variables_left units depth ms i m within at = ap (variable_leaves units depth program) (drop_one ms i m within at) ∙ variables_more units depth program m.declared (declared_of (drop (i + 1) ms))

-- ---- the program

pub program_split : (units : List Named) (charts : List ChartView) (depth i : ℕ) (u : Named) (vs : List Declared) (chart c : ChartView) → unit_at units i ≡ Some u
    → ListsTheSame units vs (names_at units i) → charts ≡ map (λ u. parts_of u.declares) units → depth ≡ length units + 1 → chart ≡ get_or charts i c
    → leaves_of_whole (composition_of units u.declares) ≡ variable_leaves units depth program vs ++ leaves_of_parts program chart
unfolding composition_of
program_split units charts depth i u vs chart c at same charts_are deep chart_at =
    let parts = chart_at ∙ unit_item (λ u. parts_of u.declares) units charts i u c at charts_are in
    by u.declares ∙ ap (λ n. variable_leaves units n program (names_in u.declares) ++ leaves.chart_in program (stored_of u.declares) (chart_in u.declares)) (omega (arith, deep))
    ∙ ap (λ ds. variable_leaves units depth program ds ++ leaves.chart_in program (stored_of u.declares) (chart_in u.declares)) (sym (names_of_unit units i u at))
    ∙ ap (λ ls. ls ++ leaves.chart_in program (stored_of u.declares) (chart_in u.declares)) (sym (same.variables depth program (omega (arith, deep))))
    ∙ ap (λ ls. variable_leaves units depth program vs ++ ls) (leaves_are program (stored_of u.declares) (chart_in u.declares) ∙ ap (leaves_of_parts program) (sym parts)) where
      inside : Base → Composition
      inside = composition_within units (suc (length units))

      by : (d : Declares) → leaves_of_whole (composition_of units d) ≡ variable_leaves units (suc (length units)) program (names_in d) ++ leaves.chart_in program (stored_of d) (chart_in d)
      by (names.type (declared_types.Structure position members)) = refl
      by (names.type (declared_types.Derived specification initial)) = refl
      by (names.function f) = refl
      by (names.block b) = with_chart units inside program (variable_leaves units (suc (length units)) program (variables_of b.variables)) (names.block b)
      by (names.program p) = with_chart units inside program (variable_leaves units (suc (length units)) program (variables_of p.variables)) (names.program p)

pub first_room : (s : ListingView) (a b whole : List LeafIn) → whole ≡ a ++ b → length s.leaves + length whole ≤ 65536 → length s.leaves + length a ≤ 65536
first_room s a b whole split room = let parts = ap length split ∙ length-append a b in omega (arith, parts, room)

pub second_room : (s now : ListingView) (a b whole : List LeafIn) → whole ≡ a ++ b → now ≡ listed s a → length s.leaves + length whole ≤ 65536 → length now.leaves + length b ≤ 65536
second_room s now a b whole split is room =
    let parts = ap length split ∙ length-append a b in
    let count = ap (λ (v : ListingView). length v.leaves) is ∙ length_listed s a in
    omega (arith, parts, count, room)

pub both_listed : {E : Type 0} (r : Result (Unit {0}) E) (s now new : ListingView) (a b whole : List LeafIn) → whole ≡ a ++ b → now ≡ listed s a → OnOk r (new ≡ listed now b) → OnOk r (new ≡ listed s whole)
both_listed (Err e) s now new a b whole split first second = tt
both_listed (Ok t) s now new a b whole split first second = second ∙ ap (λ v. listed v b) first ∙ listed_twice s a b ∙ ap (listed s) (sym split)

pub both_ways : {E : Type 0} (r : Result (Unit {0}) E) (a b whole : List LeafIn) → whole ≡ a ++ b → AreWays a → OnOk r (AreWays b) → OnOk r (AreWays whole)
both_ways (Err e) a b whole split first second = tt
both_ways (Ok t) a b whole split first second = subst AreWays (sym split) (ways_append a b first second)
