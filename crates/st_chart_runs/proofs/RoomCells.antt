-- Room for one chart more.
use Rattle.std.proofs.Common.{◌≡◌, ℕ, ◌+◌, ◌<◌, ◌≤◌, Bool, true, false, nat_lt, List, get_or, length, take, Option, Some, None, refl, sym, subst, ◌∙◌, arith, length-take}
use Rattle.std.specs.Prelude.{IfSome}
use Rattle.std.proofs.lemmas.Bool.{ltb-true}
use Rattle.std.proofs.lemmas.Grind.{common_steps}
use Rattle.std.proofs.lemmas.List.{get_or-take, get_or_default, get_or_past}
use Rattle.st_meaning.specs.Views.{SketchView}
use Rattle.st_chart_runs.specs.Charts.{ChartsFit, IsRoomFor, IsWithin}
use Rattle.st_chart_runs.specs.Views.{HasRoom}
use Rattle.st_chart_runs.specs.declared.workspace.ChartRoom.{ChartRoom}

under_not : (a b : ℕ) → nat_lt a b ≡ false → b ≤ a
under_not a b h = grind (arith, common_steps)

wider : (room new : ChartRoom) → IsWithin room new → (view : SketchView) → HasRoom room view → HasRoom new view
wider room new more view fit = record {
  steps = omega (arith, fit.steps, more.steps);
  names = omega (arith, fit.names, more.names);
  transitions = omega (arith, fit.transitions, more.transitions);
  leaves = omega (arith, fit.leaves, more.leaves);
}

more_fit : (charts : List (Option SketchView)) (i : ℕ) (d item : Option SketchView) (room new : ChartRoom) → i < length charts → item ≡ get_or charts i d → IsWithin room new
    → IfSome item (λ view. HasRoom new view) → ChartsFit (take i charts) room → ChartsFit (take (i + 1) charts) new
more_fit charts i d item room new h is more last fit unit view at = by (nat_lt unit i) refl (nat_lt unit (i + 1)) refl
  where
    by : (b : Bool) → nat_lt unit i ≡ b → (e : Bool) → nat_lt unit (i + 1) ≡ e → HasRoom new view
    by true low e s =
        let less = ltb-true unit i low in
        wider room new more view (fit unit view (get_or-take i charts unit None less ∙ sym (get_or-take (i + 1) charts unit None (omega (arith, less))) ∙ at))
    by false high true s =
        let same : unit ≡ i = omega (arith, under_not unit i high, ltb-true unit (i + 1) s) in
        let there : get_or charts i None ≡ Some view = subst (λ k. get_or charts k None ≡ Some view) same (sym (get_or-take (i + 1) charts unit None (ltb-true unit (i + 1) s)) ∙ at) in
        subst (λ (x : Option SketchView). IfSome x (λ v. HasRoom new v)) (is ∙ get_or_default charts i d None h ∙ there) last
    by false high false s =
        let none : get_or (take (i + 1) charts) unit None ≡ None = get_or_past (take (i + 1) charts) unit None (omega (arith, under_not unit (i + 1) s, length-take (i + 1) charts)) in
        let never : None ≡ Some view = sym none ∙ at in
        cc

module _ (charts : List (Option SketchView)) (i : ℕ) where
  -- what has room for one more has room for those before
  before_fit : (other : ChartRoom) → ChartsFit (take (i + 1) charts) other → ChartsFit (take i charts) other
  before_fit other fits unit view at = by (nat_lt unit i) refl
    where
      by : (b : Bool) → nat_lt unit i ≡ b → HasRoom other view
      by true low =
          let less = ltb-true unit i low in
          fits unit view (get_or-take (i + 1) charts unit None (omega (arith, less)) ∙ sym (get_or-take i charts unit None less) ∙ at)
      by false high =
          let none : get_or (take i charts) unit None ≡ None = get_or_past (take i charts) unit None (omega (arith, under_not unit i high, length-take i charts)) in
          let never : None ≡ Some view = sym none ∙ at in
          cc

  -- and for this one
  last_fits : (d item : Option SketchView) (other : ChartRoom) → i < length charts → item ≡ get_or charts i d → ChartsFit (take (i + 1) charts) other → IfSome item (λ view. HasRoom other view)
  last_fits d item other h is fits =
      subst (λ (x : Option SketchView). IfSome x (λ v. HasRoom other v)) (sym (is ∙ get_or_default charts i d None h)) (of_place (get_or charts i None) (get_or-take (i + 1) charts i None (omega arith)))
    where
      of_place : (x : Option SketchView) → get_or (take (i + 1) charts) i None ≡ x → IfSome x (λ v. HasRoom other v)
      of_place None at = tt
      of_place (Some view) at = fits i view at

  pub more_room : (d item : Option SketchView) (room new : ChartRoom) → i < length charts → item ≡ get_or charts i d → IsWithin room new → IfSome item (λ view. HasRoom new view)
      → ((other : ChartRoom) → IsWithin room other → IfSome item (λ view. HasRoom other view) → IsWithin new other) → IsRoomFor (take i charts) room → IsRoomFor (take (i + 1) charts) new
  more_room d item room new h is more last least so_far = record {
    fit = more_fit charts i d item room new h is more last so_far.fit;
    least = λ other fits. least other (so_far.least other (before_fit other fits)) (last_fits d item other h is fits);
  }
