-- Declared names that list the same leaves as others.
use Rattle.std.proofs.Common.{◌⊎◌, inl, inr, Some, ◌≡◌, ℕ, suc, ◌+◌, ◌<◌, ◌≤◌, true, false, List, [], ◌∷◌, ◌++◌, length, map, take, get_or, refl, ap, sym, ◌∙◌, subst, arith, append-nil, append_assoc}
use Rattle.std.specs.List.{flat_map}
use Rattle.std.proofs.Math.ListN.{get_or-append}
use Rattle.std.proofs.Math.Seq.{get_or-append_seam, take-suc}
use Rattle.std.proofs.lemmas.Bool.{cases_lt}
use Rattle.std.proofs.lemmas.Grind.{flat_map-append}
use Rattle.st_tree.specs.declared.tree.declaration.Declaration.{Declaration}
use Rattle.st_tree.specs.declared.tree.declaration.VarKind.{VarKind}
use Rattle.st_tree.specs.declared.tree.declaration.VarKind.TheVariants as var_kinds
use Rattle.st_leaves.specs.LeavesIn.{LeafIn, used_as, within}
use Rattle.st_leaves.specs.Paths.{field}
use Rattle.st_chart_parts.proofs.Units.{names_of_unit}
use Rattle.st_check.specs.Sized.{type_leaves}
use Rattle.st_scopes.specs.Declarations.{names_at, names_in}
use Rattle.st_tree.specs.Kinds.{is_constant}
use Rattle.st_types.specs.Inside.{declared_by, named_by}
use Rattle.st_types.specs.Names.{Declared, Named, declared_in, unit_at}
use Rattle.st_types.specs.Types.{shape_of}
use Rattle.st_types.specs.declared.unit.NamedUnit.{NamedUnit}
use Rattle.st_types.proofs.Units.{unit_at-map}
use Rattle.st_listing.specs.Walks.{ListsTheSame, declared_leaves, member_leaves, variable_leaves}
use Rattle.st_listing.proofs.Empties.{none_declared}
use Rattle.st_listing.proofs.Walks.{constant_member, constant_variable, members_more, other_member, other_variable, variables_more}

-- ---- one list after another: where the first of them lists so, both do

module _ {X : Type 0} (leaves : List X → List LeafIn) (none : leaves [] ≡ []) (more : (x : X) (xs : List X) → leaves (x ∷ xs) ≡ leaves (x ∷ []) ++ leaves xs) where
  both : (a b : List X) → leaves (a ++ b) ≡ leaves a ++ leaves b
  both [] b = ap (λ ls. ls ++ leaves b) (sym none)
  both (x ∷ a) b =
      more x (a ++ b) ∙ ap (λ ls. leaves (x ∷ []) ++ ls) (both a b) ∙ sym (append_assoc (leaves (x ∷ [])) (leaves a) (leaves b)) ∙ ap (λ ls. ls ++ leaves b) (sym (more x a))

  after_both : (now a b x : List X) → leaves a ≡ leaves b → leaves now ≡ leaves (a ++ x) → leaves now ≡ leaves (b ++ x)
  after_both now a b x same more' = more' ∙ both a x ∙ ap (λ ls. ls ++ leaves x) same ∙ sym (both b x)

  with_none : (a x : List X) → leaves x ≡ [] → leaves a ≡ leaves (a ++ x)
  with_none a x empty = sym (both a x ∙ ap (λ ls. leaves a ++ ls) empty ∙ append-nil (leaves a))

  all_none : {N : Type 0} (make : N → X) → ((n : N) → leaves (make n ∷ []) ≡ []) → (names : List N) → leaves (map make names) ≡ []
  all_none make each [] = none
  all_none make each (n ∷ names) = more (make n) (map make names) ∙ ap (λ ls. ls ++ leaves (map make names)) (each n) ∙ all_none make each names

module _ (units : List Named) where
  pub same_all : (vs : List Declared) → ListsTheSame units vs vs
  same_all vs = record { members = λ depth of le. refl; variables = λ depth of le. refl }

  pub same_more : (now a b x : List Declared) → ListsTheSame units a b → ListsTheSame units now (a ++ x) → ListsTheSame units now (b ++ x)
  same_more now a b x same more = record {
    members = λ depth of le. after_both (member_leaves units depth of) refl (members_more units depth of) now a b x (same.members depth of le) (more.members depth of le);
    variables = λ depth of le. after_both (variable_leaves units depth of) refl (variables_more units depth of) now a b x (same.variables depth of le) (more.variables depth of le);
  }

  -- ---- names without leaves

  -- a name has no leaf
  record HasNone (v : Declared) : Type 0 where
    member : (depth : ℕ) (of : List ℕ) → depth ≤ suc (length units) → member_leaves units depth of (v ∷ []) ≡ []
    variable : (depth : ℕ) (of : List ℕ) → depth ≤ suc (length units) → variable_leaves units depth of (v ∷ []) ≡ []

  same_none : {N : Type 0} (rows : List Declared) (make : N → Declared) → ((n : N) → HasNone (make n)) → (names : List N) → ListsTheSame units rows (rows ++ map make names)
  same_none rows make each names = record {
    members = λ depth of le. with_none (member_leaves units depth of) refl (members_more units depth of) rows (map make names)
        (all_none (member_leaves units depth of) refl (members_more units depth of) make (λ n. (each n).member depth of le) names);
    variables = λ depth of le. with_none (variable_leaves units depth of) refl (variables_more units depth of) rows (map make names)
        (all_none (variable_leaves units depth of) refl (variables_more units depth of) make (λ n. (each n).variable depth of le) names);
  }

  pub same_constants : (rows : List Declared) (kind : VarKind) (d : Declaration) → is_constant kind ≡ true → ListsTheSame units rows (rows ++ declared_in kind d)
  same_constants rows kind d is = same_none rows (λ n. record { name = n; kind = kind; specification = d.specification; initial = d.initial }) (λ n. record {
    member = λ depth of le. constant_member units depth of (record { name = n; kind = kind; specification = d.specification; initial = d.initial }) is;
    variable = λ depth of le. constant_variable units depth of (record { name = n; kind = kind; specification = d.specification; initial = d.initial }) is;
  }) d.names

  none_used : (kind : VarKind) (ls : List LeafIn) → ls ≡ [] → used_as kind ls ≡ []
  none_used kind ls none = ap (used_as kind) none ∙ by kind where
    by : (kind : VarKind) → used_as kind [] ≡ []
    by var_kinds.Input = refl
    by var_kinds.Internal = refl
    by var_kinds.Constant = refl
    by var_kinds.Output = refl

  empty_has_none : (v : Declared) → is_constant v.kind ≡ false → type_leaves units (shape_of units v.specification).base ≡ [] → HasNone v
  empty_has_none v other none = record {
    member = λ depth of le. other_member units depth of v other ∙ ap (within (field v.name.spelling) of) (none_declared units depth v le none);
    variable = λ depth of le. other_variable units depth of v other ∙ ap (within (field v.name.spelling) of) (none_used v.kind (declared_leaves units depth v) (none_declared units depth v le none));
  }

  pub same_empties : (rows : List Declared) (kind : VarKind) (d : Declaration) → is_constant kind ≡ false → type_leaves units (shape_of units d.specification).base ≡ [] → ListsTheSame units rows (rows ++ declared_in kind d)
  same_empties rows kind d other none =
      same_none rows (λ n. record { name = n; kind = kind; specification = d.specification; initial = d.initial }) (λ n. empty_has_none (record { name = n; kind = kind; specification = d.specification; initial = d.initial }) other none) d.names

  -- ---- one more of what declares them

  pub same_next : {D : Type 0} (declares : D → List Declared) (start rows now : List Declared) (ds : List D) (i : ℕ) (d : D) → i < length ds → d ≡ get_or ds i d
      → ListsTheSame units rows (start ++ flat_map declares (take i ds)) → ListsTheSame units now (rows ++ declares d) → ListsTheSame units now (start ++ flat_map declares (take (i + 1) ds))
  same_next declares start rows now ds i d below at before more =
      let all : (start ++ flat_map declares (take i ds)) ++ declares d ≡ start ++ flat_map declares (take (i + 1) ds) =
      append_assoc start (flat_map declares (take i ds)) (declares d)
      ∙ ap (λ ls. start ++ (flat_map declares (take i ds) ++ ls)) (sym (append-nil (declares d)))
      ∙ ap (λ ls. start ++ ls) (sym (flat_map-append declares (take i ds) (d ∷ [])))
      ∙ ap (λ x. start ++ flat_map declares (take i ds ++ x ∷ [])) at
      ∙ ap (λ xs. start ++ flat_map declares xs) (sym (take-suc ds i d below))
      ∙ ap (λ n. start ++ flat_map declares (take n ds)) (one_more i) in
      subst (ListsTheSame units now) all (same_more now rows (start ++ flat_map declares (take i ds)) (declares d) before more) where
        one_more : (n : ℕ) → suc n ≡ n + 1
        one_more n = omega arith

-- ---- one more unit

pub next_rows : (units : List Named) (read : List NamedUnit) (rows new : List (List Declared)) (i : ℕ) (unit : NamedUnit) (own : List Declared) → map named_by read ≡ units → i < length read → unit ≡ get_or read i unit → length rows ≡ i
    → ((k : ℕ) → k < i → ListsTheSame units (get_or rows k []) (names_at units k)) → ListsTheSame units own (names_in (declared_by unit.kind)) → new ≡ rows ++ own ∷ []
    → (k : ℕ) → k < i + 1 → ListsTheSame units (get_or new k []) (names_at units k)
next_rows units read rows new i unit own are below at len each same new_is k within =
    subst (λ rs. ListsTheSame units (get_or rs k []) (names_at units k)) (sym new_is) (by (cases_lt k i)) where
      here : unit_at units i ≡ Some (named_by unit)
      here = ap (λ us. unit_at us i) (sym are) ∙ unit_at-map named_by read i unit below at

      by : (k < i) ⊎ (i ≤ k) → ListsTheSame units (get_or (rows ++ own ∷ []) k []) (names_at units k)
      by (inl before) = subst (λ vs. ListsTheSame units vs (names_at units k)) (sym (get_or-append rows (own ∷ []) [] k (omega (arith, before, len)))) (each k before)
      by (inr past) =
          let last : length rows ≡ k = omega (arith, past, within, len) in
          let same_place : i ≡ k = omega (arith, last, len) in
          subst (λ n. ListsTheSame units (get_or (rows ++ own ∷ []) n []) (names_at units n)) same_place
          (subst (λ vs. ListsTheSame units vs (names_at units i)) (sym (ap (λ n. get_or (rows ++ own ∷ []) n []) (sym len) ∙ get_or-append_seam rows own [] []))
          (subst (ListsTheSame units own) (sym (names_of_unit units i (named_by unit) here)) same))
