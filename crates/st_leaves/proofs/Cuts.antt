-- Texts that are cut where bytes of one kind end.
use Rattle.std.proofs.Common.{◌≡◌, ℕ, Bool, true, false, List, [], ◌∷◌, ◌++◌, refl, ap, sym, ◌∙◌}
use Rattle.std.specs.List.{AllByRecursion as Each}
use Rattle.std.proofs.lemmas.Bool.{both_ways}

first : List ℕ → ℕ
first [] = 0
first (b ∷ bs) = b

rest : List ℕ → List ℕ
rest [] = []
rest (b ∷ bs) = bs

is_some : List ℕ → Bool
is_some [] = false
is_some (b ∷ bs) = true

pub same_first : (a b : ℕ) (as' bs : List ℕ) → a ∷ as' ≡ b ∷ bs → a ≡ b
unfolding first
same_first a b as' bs e = ap first e

pub same_rest : (a b : ℕ) (as' bs : List ℕ) → a ∷ as' ≡ b ∷ bs → as' ≡ bs
unfolding rest
same_rest a b as' bs e = ap rest e

pub none_some : (b : ℕ) (bs : List ℕ) → [] ≡ b ∷ bs → ⊥
unfolding is_some
none_some b bs e = both_ways true (ap is_some (sym e)) refl

-- what follows doesn't go on with such a byte
abbrev pub Ends : (ℕ → Bool) → List ℕ → Type 0
Ends kind [] = Unit {0}
Ends kind (b ∷ bs) = kind b ≡ false

module _ (kind : ℕ → Bool) where
  clash : (x : List ℕ) (b : ℕ) (bs : List ℕ) → Ends kind x → kind b ≡ true → x ≡ b ∷ bs → ⊥
  clash [] b bs ends of_kind e = none_some b bs e
  clash (a ∷ as') b bs ends of_kind e = both_ways (kind a) ends (ap kind (same_first a b as' bs e) ∙ of_kind)

  -- two texts that are the same begin with the same bytes of the kind
  pub cut : (w v x y : List ℕ) → Each (λ b. kind b ≡ true) w → Each (λ b. kind b ≡ true) v → Ends kind x → Ends kind y → w ++ x ≡ v ++ y → (w ≡ v) × (x ≡ y)
  cut [] [] x y of_w of_v end_x end_y e = (refl, e)
  cut [] (b ∷ v) x y of_w of_v end_x end_y e = absurd (clash x b (v ++ y) end_x of_v.0 e)
  cut (b ∷ w) [] x y of_w of_v end_x end_y e = absurd (clash y b (w ++ x) end_y of_w.0 (sym e))
  cut (a ∷ w) (b ∷ v) x y of_w of_v end_x end_y e =
      let more = cut w v x y of_w.1 of_v.1 end_x end_y (same_rest a b (w ++ x) (v ++ y) e) in
      (ap (λ c. c ∷ w) (same_first a b (w ++ x) (v ++ y) e) ∙ ap (λ bs. b ∷ bs) more.0, more.1)
