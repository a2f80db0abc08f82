-- Names that don't stand twice are apart, each from all others.
use Rattle.std.proofs.Common.{◌≡◌, ℕ, Bool, true, false, ◌||◌, List, [], ◌∷◌, ◌++◌, refl, sym, ◌∙◌}
use Rattle.std.specs.List.{AllByRecursion as Each, flat_map}
use Rattle.std.proofs.lemmas.List.Folds.{list_any-append}
use Rattle.st_values.specs.Words.{is_word}
use Rattle.st_tree.specs.declared.tree.position.Identifier.{Identifier}
use Rattle.st_faults.specs.Faults.{fault, when}
use Rattle.st_faults.specs.declared.fault.Fault.{Fault}
use Rattle.st_faults.specs.declared.fault.Rule.TheVariants as rules
use Rattle.st_check_units.specs.Repeats.{is_there, repeated, spellings}
use Rattle.st_leaves.proofs.Pairs.{Pairwise, each_weaker}

-- ---- lists without elements

pub nothing_parts : {X : Type 0} (xs ys : List X) → xs ++ ys ≡ [] → (xs ≡ []) × (ys ≡ [])
nothing_parts [] ys h = (refl, h)
nothing_parts (x ∷ xs) ys h = absurd (cc)

pub nothing_each : {X Y : Type 0} (f : X → List Y) (xs : List X) → flat_map f xs ≡ [] → Each (λ x. f x ≡ []) xs
nothing_each f [] h = tt
nothing_each f (x ∷ xs) h = (let parts = nothing_parts (f x) (flat_map f xs) h in (parts.0, nothing_each f xs parts.1))

pub kept_when : (b : Bool) (f : Fault) → when b f ≡ [] → b ≡ false
kept_when true f h = absurd (cc)
kept_when false f h = refl

-- ---- names that don't stand twice

pub neither : (a b : Bool) → (a || b) ≡ false → (a ≡ false) × (b ≡ false)
neither true b h = absurd (cc)
neither false b h = (refl, h)

-- a name that isn't among two lists is in neither
new_parts : (others more : List (List ℕ)) (name : List ℕ) → is_there (others ++ more) name ≡ false → (is_there others name ≡ false) × (is_there more name ≡ false)
new_parts others more name h = neither (is_there others name) (is_there more name) (sym (list_any-append (λ other. is_word other name) others more) ∙ h)

-- no name is among those that stood before
are_new : (others : List (List ℕ)) (names : List Identifier) → repeated others names ≡ [] → Each (λ name. is_there others name ≡ false) (spellings names)
are_new others [] h = tt
are_new others (n ∷ ns) h =
    let parts = nothing_parts (when (is_there others n.spelling) (fault n.position rules.NameTwice)) (repeated (others ++ n.spelling ∷ []) ns) h in (
      kept_when (is_there others n.spelling) (fault n.position rules.NameTwice) parts.0,
      each_weaker (λ name. is_there (others ++ n.spelling ∷ []) name ≡ false) (λ name. is_there others name ≡ false) (spellings ns)
          (λ name new. (new_parts others (n.spelling ∷ []) name new).0) (are_new (others ++ n.spelling ∷ []) ns parts.1),
    )

-- no two of these names are the same
abbrev pub NamesAreApart : List Identifier → Type 0
NamesAreApart names = Pairwise (λ a b. is_word a b ≡ false) (spellings names)

pub apart : (others : List (List ℕ)) (names : List Identifier) → repeated others names ≡ [] → NamesAreApart names
apart others [] h = tt
apart others (n ∷ ns) h =
    let rest = (nothing_parts (when (is_there others n.spelling) (fault n.position rules.NameTwice)) (repeated (others ++ n.spelling ∷ []) ns) h).1 in (
      each_weaker (λ name. is_there (others ++ n.spelling ∷ []) name ≡ false) (λ name. is_word n.spelling name ≡ false) (spellings ns)
          (λ name new. (neither (is_word n.spelling name) false (new_parts others (n.spelling ∷ []) name new).1).0) (are_new (others ++ n.spelling ∷ []) ns rest),
      apart (others ++ n.spelling ∷ []) ns rest,
    )
