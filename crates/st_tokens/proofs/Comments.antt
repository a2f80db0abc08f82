-- Comments.
use Rattle.std.proofs.Common.{◌≡◌, ℕ, ◌+◌, ◌<◌, ◌≤◌, List, [], ◌∷◌, ◌++◌, length, refl, sym, ap, ◌∙◌, true, false, arith}
use Rattle.std.specs.Prelude.{Some, None, ◌==◌, ◌&&◌}
use Rattle.st_tokens.specs.Characters.{line_end, line_ends}
use Rattle.st_tokens.specs.Scanning.{comment_at}
use Rattle.st_tokens.specs.Text.{IsComment}
use Rattle.st_tokens.proofs.Cases.{by_test, both, is_equal, some_parts}

-- after `(*`, the first `*)` stands after the body
pub record Ends (text body rest : List ℕ) : Type 0 where
  pub splits : text ≡ body ++ 42 ∷ 41 ∷ rest
  pub first : (other back : List ℕ) → text ≡ other ++ 42 ∷ 41 ∷ back → length body ≤ length other

-- the two bytes are `*)`
mark : (b c : ℕ) → (b == 42 && c == 41) ≡ true → (b ≡ 42) × (c ≡ 41)
mark b c h = let w = both (b == 42) (c == 41) h in (is_equal b 42 w.0, is_equal c 41 w.1)

-- two bytes that are `*)` pass the test
no_mark : (b c : ℕ) → b ≡ 42 → c ≡ 41 → (b == 42 && c == 41) ≡ false → ⊥
no_mark b c e f h = let h' : true ≡ false = rw (e, f) at h in cc

-- the lines of one byte more
longer : (line : ℕ) (b : ℕ) (more : ℕ) (line' : ℕ) → line' ≡ line + line_end b + more → line' ≡ line + (line_end b + more)
longer line b more line' h = omega arith

-- one byte more before the end
one_more : (b c : ℕ) (bs body rest : List ℕ) → (b == 42 && c == 41) ≡ false → Ends (c ∷ bs) body rest → Ends (b ∷ c ∷ bs) (b ∷ body) rest
one_more b c bs body rest h ends = record {
  splits = ap (λ (zs : List ℕ). b ∷ zs) ends.splits;
  first = least;
} where
  least : (other back : List ℕ) → b ∷ c ∷ bs ≡ other ++ 42 ∷ 41 ∷ back → length (b ∷ body) ≤ length other
  least [] back e = let f : b ≡ 42 = cc in let g : c ≡ 41 = cc in absurd (no_mark b c f g h)
  least (x ∷ other) back e = let f : c ∷ bs ≡ other ++ 42 ∷ 41 ∷ back = cc in let le = ends.first other back f in omega arith

-- what is found after a comment stands after its first `*)`
pub comment_found : (line line' : ℕ) (text rest : List ℕ) → comment_at line text ≡ Some (line', rest)
    → (body : List ℕ) × Ends text body rest × (line' ≡ line + line_ends body)
comment_found line line' [] rest h = absurd (cc)
comment_found line line' (b ∷ []) rest h = absurd (cc)
comment_found line line' (b ∷ c ∷ bs) rest h = by_test (b == 42 && c == 41)
    (λ t. let w = mark b c t in let e = some_parts (rw t at h) in
    ([], record { splits = rw (w.0, w.1) (ap (λ (zs : List ℕ). 42 ∷ 41 ∷ zs) e.1); first = λ other back g. omega arith }, omega (arith, e.0)))
    (λ t. let w = comment_found (line + line_end b) line' (c ∷ bs) rest (rw t at h) in
    (b ∷ w.0, one_more b c bs w.0 rest t w.1, longer line b (line_ends w.0) line' w.2))

-- where nothing is found, no `*)` stands
pub comment_none : (line : ℕ) (text : List ℕ) → comment_at line text ≡ None → (body rest : List ℕ) → text ≡ body ++ 42 ∷ 41 ∷ rest → ⊥
comment_none line [] h [] rest e = cc
comment_none line [] h (x ∷ body) rest e = cc
comment_none line (b ∷ []) h [] rest e = cc
comment_none line (b ∷ []) h (x ∷ []) rest e = cc
comment_none line (b ∷ []) h (x ∷ y ∷ body) rest e = cc
comment_none line (b ∷ c ∷ bs) h [] rest e =
    let f : b ≡ 42 = cc in let g : c ≡ 41 = cc in let t : (b == 42 && c == 41) ≡ true = rw (f, g) refl in
    let h' = rw t at h in absurd (cc)
comment_none line (b ∷ c ∷ bs) h (x ∷ body) rest e = by_test (b == 42 && c == 41)
    (λ t. let h' = rw t at h in absurd (cc))
    (λ t. comment_none (line + line_end b) (c ∷ bs) (rw t at h) body rest (let f : c ∷ bs ≡ body ++ 42 ∷ 41 ∷ rest = cc in f))

-- lists of one length at the start of one list are one
pub append_same : (a b x y : List ℕ) → a ++ x ≡ b ++ y → length a ≡ length b → (a ≡ b) × (x ≡ y)
append_same [] [] x y e l = (refl, e)
append_same [] (c ∷ b) x y e l = absurd (omega arith)
append_same (c ∷ a) [] x y e l = absurd (omega arith)
append_same (c ∷ a) (d ∷ b) x y e l =
    let head : c ≡ d = cc in let tail : a ++ x ≡ b ++ y = cc in
    let w = append_same a b x y tail (omega arith) in
    (ap (λ (z : ℕ). z ∷ a) head ∙ ap (λ (zs : List ℕ). d ∷ zs) w.0, w.1)

-- a comment ends at one place
pub ends_once : (text body body' rest rest' : List ℕ) → Ends text body rest → Ends text body' rest' → (body ≡ body') × (rest ≡ rest')
ends_once text body body' rest rest' e f =
    let le = e.first body' rest' f.splits in let ge = f.first body rest e.splits in
    let w = append_same body body' (42 ∷ 41 ∷ rest) (42 ∷ 41 ∷ rest') (sym e.splits ∙ f.splits) (omega arith) in
    (w.0, let g = w.1 in cc)

-- a body that ends makes a comment
pub comment_of : (text body rest : List ℕ) → Ends text body rest → IsComment (40 ∷ 42 ∷ text) body rest
comment_of text body rest e = record {
  splits = ap (λ (zs : List ℕ). 40 ∷ 42 ∷ zs) e.splits;
  first = λ other back g. e.first other back (let f : text ≡ other ++ 42 ∷ 41 ∷ back = cc in f);
}

-- a comment has a body that ends
pub ends_of : (text body rest : List ℕ) → IsComment (40 ∷ 42 ∷ text) body rest → Ends text body rest
ends_of text body rest c = record {
  splits = let e = c.splits in let f : text ≡ body ++ 42 ∷ 41 ∷ rest = cc in f;
  first = λ other back g. c.first other back (ap (λ (zs : List ℕ). 40 ∷ 42 ∷ zs) g);
}

-- fewer than two bytes have no end
pub comment_at-short : (line : ℕ) (text : List ℕ) → length text < 2 → comment_at line text ≡ None
comment_at-short line [] h = refl
comment_at-short line (b ∷ []) h = refl
comment_at-short line (b ∷ c ∷ bs) h = absurd (omega arith)
