-- Charts of which no active step is kept.
use Rattle.std.proofs.Common.{ℕ, ◌≡◌, ◌+◌, ◌<◌, ◌&&◌, ◌||◌, Bool, true, false, not, List, [], ◌∷◌, length, map, Option, refl, sym, ◌∙◌, ap, arith, zero-add}
use Rattle.std.specs.List.{list_any, range_with_len}
use Rattle.std.proofs.lemmas.List.Folds.{list_any-append, list_any_at}
use Rattle.std.proofs.lemmas.List.FromFn.{get_or-range_with_len, length-range_with_len, map-range_with_len_more}
use Rattle.st_control.specs.Changes.{AreMarks, active_chart, is_chart, is_kept, loses_active_step, mark_at, stops}
use Rattle.st_layout.specs.Layout.{leaf_at}
use Rattle.st_layout.specs.Pairs.{is_number}
use Rattle.st_tree.specs.declared.leaf.Leaf.{Leaf}
use Rattle.st_types.proofs.Places.{list_any-map}
use Rattle.st_values.specs.declared.value.Value.{Value}

or_none : (b : Bool) → (b || false) ≡ b
or_none true = refl
or_none false = refl

-- one number more
pub any_more : (test : ℕ → Bool) (n : ℕ) → list_any test (range_with_len 0 (n + 1)) ≡ (list_any test (range_with_len 0 n) || test n)
any_more test n =
    let same : ℕ → ℕ = λ i. i in
    sym (list_any-map same test (range_with_len 0 (n + 1)))
    ∙ ap (list_any test) (map-range_with_len_more same 0 n n (zero-add n))
    ∙ list_any-append test (map same (range_with_len 0 n)) (n ∷ [])
    ∙ ap (λ (any : Bool). any || (test n || false)) (list_any-map same test (range_with_len 0 n))
    ∙ ap (λ (last : Bool). list_any test (range_with_len 0 n) || last) (or_none (test n))

module _ (old : List Leaf) (targets : List (Option ℕ)) (values : List Value) where
  -- the marks after one leaf more
  pub marks_more : (n : ℕ) (marks new : List Bool) → AreMarks old targets values n marks → length new ≡ length marks
      → ((k : ℕ) → k < length marks → mark_at new k ≡ (mark_at marks k || is_number k (active_chart old targets values n))) → AreMarks old targets values (n + 1) new
  marks_more n marks new are long each = record {
    long = long ∙ are.long;
    marked = λ k below.
        each k (omega (arith, below, are.long))
        ∙ ap (λ (before : Bool). before || is_number k (active_chart old targets values n)) (are.marked k below)
        ∙ sym (any_more (λ i. is_number k (active_chart old targets values i)) n);
  }

  -- whether a leaf stops its chart, as the marks tell it
  pub stops_told : (keeps marks : List Bool) (i : ℕ) (told : Bool) → marks ≡ keeps → AreMarks old targets values (length old) keeps → i < length old
      → told ≡ (is_kept targets i && (is_chart (leaf_at old i).role && not (mark_at marks i))) → stops old targets values i ≡ told
  stops_told keeps marks i told same are below is =
      let test : Bool → Bool = λ keeping. is_kept targets i && (is_chart (leaf_at old i).role && not keeping) in
      sym (is ∙ ap (λ (them : List Bool). test (mark_at them i)) same ∙ ap test (are.marked i below))

  -- one is enough
  pub stops_one : (i : ℕ) → i < length old → stops old targets values i ≡ true → loses_active_step old targets values ≡ true
  stops_one i below is =
      list_any_at (stops old targets values) (range_with_len 0 (length old)) i 0 (omega (arith, below, length-range_with_len 0 (length old)))
      (ap (stops old targets values) (get_or-range_with_len 0 (length old) i 0 below ∙ zero-add i) ∙ is)

  -- and so far there is none
  pub stops_none : (n : ℕ) → list_any (stops old targets values) (range_with_len 0 n) ≡ false → stops old targets values n ≡ false
      → list_any (stops old targets values) (range_with_len 0 (n + 1)) ≡ false
  stops_none n before here = any_more (stops old targets values) n ∙ rw (before, here) refl
