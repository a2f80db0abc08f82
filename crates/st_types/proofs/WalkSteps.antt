-- The steps of a walk along links.
use Rattle.std.proofs.Common.{◌≡◌, ◌≢◌, ℕ, zero, suc, ◌+◌, ◌-◌, ◌<◌, ◌≤◌, Bool, false, List, [], ◌∷◌, ◌++◌, length, set, replicate, map, if◌then◌else◌, refl, sym, ◌∙◌, ap, subst, arith, inl, inr, ◌⊎◌, Some, Ok, Err, IfOk, Result, Vec, Global, length-set, get_or-set_same, get_or-set_other, length-append}
use Rattle.std.specs.List.{All, Contains}
use Rattle.std.proofs.lemmas.Bool.{cases_eq, cases_lt}
use Rattle.std.proofs.lemmas.List.{get_or-map, get_or_past, length-map, length-replicate}
use Rattle.std.proofs.lemmas.List.Elements.{All-contains, All-pop, All-push, Contains-append_left, Contains-push, Contains-push_cases}
use Rattle.std.proofs.lemmas.List.Folds.{sum_by-replicate}
use Rattle.std.proofs.lemmas.List.Sums.{sum_by-set}
use Rattle.st_types.specs.Links.{LeadsBelow, link_at, link_within, through}
use Rattle.st_types.specs.Walks.{AreMarked, IsDown, IsMet, IsUp, KeepsMet, LeadsTo, base_at, base_of, is_new, mark_of, unmet}
use Rattle.st_types.specs.declared.base.Base.{Base}
use Rattle.st_types.specs.declared.base.Base.TheVariants as bases
use Rattle.st_types.specs.declared.link.Link.{Link}
use Rattle.st_types.specs.declared.link.Link.TheVariants as links
use Rattle.st_types.specs.declared.walk.Mark.{Mark}
use Rattle.st_types.specs.declared.walk.Mark.TheVariants as marks
use Rattle.st_types.proofs.Following.{linked-pop, linked-push, reaches, returns_unknown, within-known, within-leads}

-- ---- one mark set

abbrev one_if_new : Mark → ℕ
one_if_new m = if is_new m then 1 else 0

module _ (marking : List Mark) (v : ℕ) (m : Mark) (below : v < length marking) where
  here : (w : ℕ) → w ≡ v → mark_of (set marking v m) w ≡ m
  here w same = ap (mark_of (set marking v m)) same ∙ get_or-set_same marking v m marks.New below

  there : (w : ℕ) → w ≢ v → mark_of (set marking v m) w ≡ mark_of marking w
  there w other = get_or-set_other marking v w m marks.New other

  -- a mark that is set isn't new
  pub set_met : is_new m ≡ false → IsMet (set marking v m) v
  set_met met = ap is_new (here v refl) ∙ met

  pub set_keeps : is_new m ≡ false → KeepsMet marking (set marking v m)
  set_keeps met w was = elim (cases_eq w v) as (λ _. IsMet (set marking v m) w) [
    | inl same ↦ ap is_new (here w same) ∙ met
    | inr other ↦ ap is_new (there w other) ∙ was
  ]

  pub unmet_new : is_new m ≡ false → mark_of marking v ≡ marks.New → unmet (set marking v m) + 1 ≡ unmet marking
  unmet_new met new =
      let one : one_if_new (mark_of marking v) ≡ 1 = ap one_if_new new in
      let none : one_if_new m ≡ 0 = ap (λ (b : Bool). if b then 1 else 0) met in
      omega (arith, sum_by-set one_if_new marking v m marks.New below)

  pub unmet_le : is_new m ≡ false → unmet (set marking v m) ≤ unmet marking
  unmet_le met =
      let none : one_if_new m ≡ 0 = ap (λ (b : Bool). if b then 1 else 0) met in
      omega (arith, sum_by-set one_if_new marking v m marks.New below)

  -- the mark of each unit
  by_unit : (P : Mark → Type 0) (w : ℕ) → (w ≡ v → P m) → (w ≢ v → P (mark_of marking w)) → P (mark_of (set marking v m) w)
  by_unit P w one others = elim (cases_eq w v) as (λ _. P (mark_of (set marking v m) w)) [
    | inl same ↦ subst P (sym (here w same)) (one same)
    | inr other ↦ subst P (sym (there w other)) (others other)
  ]

-- ---- down

module _ (all : List Link) (marking : List Mark) (path : List ℕ) (at : ℕ) (down : IsDown all marking path at) where
  at_within : at < length marking
  at_within = omega (arith, down.below, down.marked.len)

  -- to the next unit
  pub step_down : (more : List ℕ) (next : ℕ) → mark_of marking at ≡ marks.New → LeadsTo (link_at all at) next → next < length all → more ≡ path ++ at ∷ [] → IsDown all (set marking at marks.Open) more next
  step_down more next new leads within is = subst (λ (units : List ℕ). IsDown all (set marking at marks.Open) units next) (sym is) (record {
    marked = record {
      depth = down.marked.depth;
      len = length-set marking at marks.Open ∙ down.marked.len;
      fits = omega (arith, down.marked.fits, unmet_new marking at marks.Open at_within refl new, length-append path (at ∷ []), length-set marking at marks.Open);
      done = λ i base. by_unit marking at marks.Open at_within (λ m. m ≡ marks.Done base → (n : ℕ) → down.marked.depth ≤ n → link_within all n i ≡ base) i (λ _ h. cc) (λ _. down.marked.done i base);
      opens = λ i. by_unit marking at marks.Open at_within (λ m. m ≡ marks.Open → Contains (path ++ at ∷ []) i) i
          (λ same _. subst (Contains (path ++ at ∷ [])) (sym same) (Contains-push path at)) (λ _ h. Contains-append_left path (at ∷ []) i (down.marked.opens i h));
      within = All-push (λ i. i < length all) path at down.marked.within down.below;
    };
    linked = linked-push all path at next down.linked leads;
    below = within;
  })

  -- to a unit that stands for a type by itself
  pub known_end : (base : Base) → mark_of marking at ≡ marks.New → link_at all at ≡ links.Known base → IsUp all (set marking at (marks.Done base)) path base
  known_end base new known = record {
    marked = record {
      depth = down.marked.depth + 1;
      len = length-set marking at (marks.Done base) ∙ down.marked.len;
      fits = omega (arith, down.marked.fits, unmet_new marking at (marks.Done base) at_within refl new, length-set marking at (marks.Done base));
      done = λ i other. by_unit marking at (marks.Done base) at_within (λ m. m ≡ marks.Done other → (n : ℕ) → down.marked.depth + 1 ≤ n → link_within all n i ≡ other) i
          (λ same h n le. known_after i same n (omega (arith, le)) ∙ cc) (λ _ h n le. down.marked.done i other h n (omega (arith, le)));
      opens = λ i. by_unit marking at (marks.Done base) at_within (λ m. m ≡ marks.Open → Contains path i) i (λ _ h. cc) (λ _. down.marked.opens i);
      within = down.marked.within;
    };
    at = at;
    linked = down.linked;
    known = λ n le. known_after at refl n (omega (arith, le));
  }
    where
      known_after : (i : ℕ) → i ≡ at → (n : ℕ) → 0 < n → link_within all n i ≡ base
      known_after i same zero le = absurd (omega (arith, le))
      known_after i same (suc n) le = within-known all n i base (ap (link_at all) same ∙ known)

  -- to a unit whose type is known
  pub done_end : (base : Base) → mark_of marking at ≡ marks.Done base → IsUp all marking path base
  done_end base done = record { marked = down.marked; at = at; linked = down.linked; known = down.marked.done at base done }

  -- to a unit that leads to itself
  pub open_end : mark_of marking at ≡ marks.Open → IsUp all marking path bases.Unknown
  open_end opened = record {
    marked = down.marked;
    at = at;
    linked = down.linked;
    known = λ n _. returns_unknown all at (reaches all path at at down.linked (down.marked.opens at opened)) n;
  }

-- ---- up

module _ (all : List Link) (marking : List Mark) (path : List ℕ) (unit : ℕ) (base : Base) (up : IsUp all marking (path ++ unit ∷ []) base) where
  found : Base
  found = through (link_at all unit) unit base

  marked : List Mark
  marked = set marking unit (marks.Done (through (link_at all unit) unit base))

  unit_below : unit < length all
  unit_below = All-contains (λ i. i < length all) (path ++ unit ∷ []) unit up.marked.within (Contains-push path unit)

  -- how many links the types that are known take by now
  deeper : (d : ℕ) × (unmet marked + length path + d ≡ length marking) × (up.marked.depth < d)
  unfolding marked
  deeper =
      let less : unmet marked ≤ unmet marking = unmet_le marking unit (marks.Done (through (link_at all unit) unit base)) (omega (arith, unit_below, up.marked.len)) refl in
      let long : length (path ++ unit ∷ []) ≡ length path + 1 = length-append path (unit ∷ []) in
      (length marking - (unmet marked + length path), omega (arith, up.marked.fits), omega (arith, up.marked.fits))

  known_after : (i : ℕ) → i ≡ unit → (n : ℕ) → up.marked.depth < n → link_within all n i ≡ found
  unfolding found
  known_after i same zero lt = absurd (omega (arith, lt))
  known_after i same (suc n) lt =
      ap (link_within all (suc n)) same
      ∙ (within-leads all n unit up.at (linked-pop all path unit up.at up.linked).1 ∙ ap (through (link_at all unit) unit) (up.known n (omega (arith, lt))))

  back : IsUp all marked path found
  unfolding marked found
  back =
      let below : unit < length marking = omega (arith, unit_below, up.marked.len) in record {
        marked = record {
          depth = deeper.0;
          len = length-set marking unit (marks.Done (through (link_at all unit) unit base)) ∙ up.marked.len;
          fits = omega (arith, deeper.1, length-set marking unit (marks.Done (through (link_at all unit) unit base)));
          done = λ i other. by_unit marking unit (marks.Done (through (link_at all unit) unit base)) below (λ m. m ≡ marks.Done other → (n : ℕ) → deeper.0 ≤ n → link_within all n i ≡ other) i
              (λ same h n le. known_after i same n (omega (arith, le, deeper.2)) ∙ cc) (λ _ h n le. up.marked.done i other h n (omega (arith, le, deeper.2)));
          opens = λ i. by_unit marking unit (marks.Done (through (link_at all unit) unit base)) below (λ m. m ≡ marks.Open → Contains path i) i (λ _ h. cc)
              (λ not_unit h. elim (Contains-push_cases path unit i (up.marked.opens i h)) as (λ _. Contains path i) [ inl c ↦ c | inr same ↦ absurd (not_unit (sym same)) ]);
          within = (All-pop (λ i. i < length all) (path ++ unit ∷ []) path (Some unit) refl up.marked.within).0;
        };
        at = unit;
        linked = (linked-pop all path unit up.at up.linked).0;
        known = λ n le. known_after unit refl n (omega (arith, le, deeper.2));
      }

-- back to the unit before
pub step_up : (all : List Link) (marking : List Mark) (path front : List ℕ) (unit : ℕ) (base found : Base) → IsUp all marking path base → path ≡ front ++ unit ∷ [] → found ≡ through (link_at all unit) unit base → IsUp all (set marking unit (marks.Done found)) front found
unfolding found marked
step_up all marking path front unit base now up is known =
    subst (λ (b : Base). IsUp all (set marking unit (marks.Done b)) front b) (sym known) (back all marking front unit base (subst (λ (units : List ℕ). IsUp all marking units base) is up))

pub last_below : (all : List Link) (marking : List Mark) (path front : List ℕ) (unit : ℕ) (base : Base) → IsUp all marking path base → path ≡ front ++ unit ∷ [] → unit < length marking
last_below all marking path front unit base up is =
    omega (arith, up.marked.len, unit_below all marking front unit base (subst (λ (units : List ℕ). IsUp all marking units base) is up))

-- where the walk began, or is met
pub started-down : (marking : List Mark) (at from : ℕ) (m : Mark) → at < length marking → is_new m ≡ false → IsMet marking from ⊎ (at ≡ from) → IsMet (set marking at m) from
started-down marking at from m below met (inl was) = set_keeps marking at m below met from was
started-down marking at from m below met (inr is) = subst (IsMet (set marking at m)) is (set_met marking at m below met)

-- ---- what the code knows at a link

pub leads_either : (link : Link) (j : ℕ) → (link ≡ links.SameAs j) ⊎ (link ≡ links.ArrayOf j) → LeadsTo link j
leads_either link j (inl is) = subst (λ (l : Link). LeadsTo l j) (sym is) refl
leads_either link j (inr is) = subst (λ (l : Link). LeadsTo l j) (sym is) refl

leads_below : (n : ℕ) (link : Link) (j : ℕ) → LeadsBelow n link → LeadsTo link j → j < n
leads_below n (links.Known base) j below leads = absurd leads
leads_below n (links.SameAs k) j below leads = omega (arith, below, leads)
leads_below n (links.ArrayOf k) j below leads = omega (arith, below, leads)

pub next_below : (all : List Link) (at j : ℕ) → All (LeadsBelow (length all)) all → at < length all → LeadsTo (link_at all at) j → j < length all
next_below all at j closed below leads = leads_below (length all) (link_at all at) j (closed at (links.Known bases.Unknown) below) leads

-- ---- all units

-- before the first walk
all_new : (n i : ℕ) → mark_of (replicate n marks.New) i ≡ marks.New
all_new zero i = refl
all_new (suc n) zero = refl
all_new (suc n) (suc i) = all_new n i

none_met : (n : ℕ) → unmet (replicate n marks.New) ≡ n
none_met n = omega (arith, sum_by-replicate one_if_new n marks.New)

pub begun : (all : List Link) → AreMarked all (replicate (length all) marks.New) []
begun all = record {
  depth = 0;
  len = length-replicate (length all) marks.New;
  fits = omega (arith, none_met (length all), length-replicate (length all) marks.New);
  done = λ i base h. let new = all_new (length all) i in cc;
  opens = λ i h. let new = all_new (length all) i in cc;
  within = λ k d below. absurd (omega (arith, below));
}

-- after the last each type is known
module _ (all : List Link) (marking : List Mark) (marked : AreMarked all marking []) (met : (i : ℕ) → i < length all → IsMet marking i) where
  is_done : (m : Mark) (i : ℕ) → mark_of marking i ≡ m → is_new m ≡ false → (base : Base) × (m ≡ marks.Done base)
  is_done marks.New i at old = cc
  is_done marks.Open i at old = let on : Contains [] i = marked.opens i at in absurd (omega (arith, on.1))
  is_done (marks.Done base) i at old = (base, refl)

  pub all_done : (i : ℕ) → base_at (map base_of marking) i ≡ link_within all (suc (length all)) i
  all_done i = elim (cases_lt i (length all)) as (λ _. base_at (map base_of marking) i ≡ link_within all (suc (length all)) i) [
    | inl below ↦
        let known = is_done (mark_of marking i) i refl (met i below) in
        get_or-map base_of marking i marks.New bases.Unknown (omega (arith, below, marked.len))
        ∙ (ap base_of known.1 ∙ sym (marked.done i known.0 known.1 (suc (length all)) (omega (arith, marked.fits, marked.len))))
    | inr past ↦
        get_or_past (map base_of marking) i bases.Unknown (omega (arith, past, marked.len, length-map marking base_of))
        ∙ sym (within-known all (length all) i bases.Unknown (get_or_past all i (links.Known bases.Unknown) past))
  ]

  pub all_answered : {E : Type 0} (answer : Result (Vec Base Global) E) → IfOk answer (λ bases. bases.items ≡ map base_of marking) → IfOk answer (λ bases. (i : ℕ) → base_at bases.items i ≡ link_within all (suc (length all)) i)
  all_answered (Ok bases) are = λ i. ap (λ (bs : List Base). base_at bs i) are ∙ all_done i
  all_answered (Err e) are = tt
