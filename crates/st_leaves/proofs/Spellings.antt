-- Names as they are declared: they are the same words, and as long.
use Rattle.std.proofs.Common.{◌≡◌, ℕ, suc, ◌+◌, Bool, true, false, cond, List, [], ◌∷◌, ◌++◌, codes, map, length, refl, ap, sym, ◌∙◌, length-append}
use Rattle.std.specs.Char.{to_ascii_lowercase}
use Rattle.std.specs.List.{flat_map}
use Rattle.std.specs.Str.{bytes_eq, str_to_ascii_lowercase}
use Rattle.std.proofs.lemmas.List.{length-map}
use Rattle.std.proofs.lemmas.Slice.Eq.{bytes_eq-Decides}
use Rattle.st_leaves.specs.Sizes.{leaf}
use Rattle.st_tree.specs.declared.tree.unit.ChartElement.{ChartElement}
use Rattle.st_types.proofs.Cases.{by_test}
use Rattle.st_tree.specs.Kinds.{is_constant}
use Rattle.st_types.specs.Compositions.{Composition, Members, member, members_by}
use Rattle.st_types.specs.Compositions as compositions
use Rattle.st_types.specs.Names.{Declared, Named, steps_in}
use Rattle.st_types.specs.declared.base.Base.{Base}
use Rattle.st_values.specs.Words.{is_word}
use Rattle.st_values.proofs.SameWords.{is_word_comm}
use Rattle.st_leaves.specs.Charts.{action_names, as_declared, associations_in, stored_by, stored_leaves, stored_names, variable_names}
use Rattle.st_leaves.specs.LeavesIn.{member_names}
use Rattle.st_leaves.specs.Limits.{sizes_of}
use Rattle.st_leaves.proofs.NamesOnce.{alike, itself, lowered, stored_apart}
use Rattle.st_leaves.proofs.Pairs.{Pairwise, pairwise_map, pairwise_weaker}

-- ---- the same word

same_length : (a b : List ℕ) → is_word a b ≡ true → length a ≡ length b
same_length a b same = sym (length-map a to_ascii_lowercase) ∙ ap length (lowered a b same) ∙ length-map b to_ascii_lowercase

-- ---- a name as it is declared

module _ (declared : List (List ℕ)) where
  pub declared_same : (name : List ℕ) → is_word (as_declared declared name) name ≡ true
  declared_same name = by declared where
    by : (ds : List (List ℕ)) → is_word (as_declared ds name) name ≡ true
    by [] = itself name
    by (d ∷ ds) =
        by_test (is_word d name) (λ t. ap (λ b. is_word (cond b d (as_declared ds name)) name) t ∙ t)
        (λ t. ap (λ b. is_word (cond b d (as_declared ds name)) name) t ∙ by ds)

  both : (a b : List ℕ) → is_word (as_declared declared a) (as_declared declared b) ≡ is_word a b
  both a b =
      alike (as_declared declared a) a (as_declared declared b) (declared_same a) ∙ is_word_comm a (as_declared declared b)
      ∙ alike (as_declared declared b) b a (declared_same b) ∙ is_word_comm b a

  declared_apart : (names : List (List ℕ)) → Pairwise (λ a b. is_word a b ≡ false) names → Pairwise (λ a b. is_word a b ≡ false) (map (as_declared declared) names)
  declared_apart names apart =
      pairwise_map (λ a b. is_word a b ≡ false) (as_declared declared) names
      (pairwise_weaker (λ a b. is_word a b ≡ false) (λ a b. is_word (as_declared declared a) (as_declared declared b) ≡ false) names (λ a b e. both a b ∙ e) apart)

  path_length : (name : List ℕ) → length ((codes "." ++ as_declared declared name) ++ codes ".$S") ≡ length ((codes "." ++ name) ++ codes ".$S")
  path_length name =
      length-append (codes "." ++ as_declared declared name) (codes ".$S") ∙ ap (λ n. suc n + 3) (same_length (as_declared declared name) name (declared_same name))
      ∙ sym (length-append (codes "." ++ name) (codes ".$S"))

  declared_sizes : (names : List (List ℕ)) → sizes_of (stored_leaves (map (as_declared declared) names)) ≡ sizes_of (stored_leaves names)
  declared_sizes [] = refl
  declared_sizes (n ∷ ns) =
      ap (λ k. leaf k 1 ∷ sizes_of (stored_leaves (map (as_declared declared) ns))) (path_length n)
      ∙ ap (λ ls. leaf (length ((codes "." ++ n) ++ codes ".$S")) 1 ∷ ls) (declared_sizes ns)

-- ---- the names that a chart stores

module _ (variables : List (List ℕ)) (chart : List ChartElement) where
  pub stored_by_apart : Pairwise (λ a b. is_word a b ≡ false) (stored_by variables chart)
  stored_by_apart =
      declared_apart (variables ++ action_names chart) (stored_names (associations_in chart))
      (stored_apart (associations_in chart))

  pub stored_by_count : length (stored_by variables chart) ≡ length (stored_names (associations_in chart))
  stored_by_count = length-map (stored_names (associations_in chart)) (as_declared (variables ++ action_names chart))

  pub stored_by_sizes : sizes_of (stored_leaves (stored_by variables chart)) ≡ sizes_of (stored_leaves (stored_names (associations_in chart)))
  stored_by_sizes = declared_sizes (variables ++ action_names chart) (stored_names (associations_in chart))

-- ---- the names of variables

module _ (units : List Named) (inside : Base → Composition) where
  one_more : (is_left_out : Bool) (name : List ℕ) (c : Composition) (v : Declared) (ms : Members) (ns : List (List ℕ)) → ns ≡ member_names ms
      → cond is_left_out [] (name ∷ []) ++ ns ≡ member_names (cond is_left_out ms (member name v.kind c ms))
  one_more true name c v ms ns same = same
  one_more false name c v ms ns same = ap (λ more. name ∷ more) same

  -- they are those of the members
  pub variables_are_members : (vs : List Declared) → variable_names vs ≡ member_names (members_by units inside vs)
  variables_are_members [] = refl
  variables_are_members (v ∷ vs) =
      one_more (is_constant v.kind) v.name.spelling (compositions.declared_composition units inside v) v (members_by units inside vs) (variable_names vs) (variables_are_members vs)
