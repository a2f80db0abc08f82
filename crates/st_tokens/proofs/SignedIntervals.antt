-- What stands after the `#` of a duration, at the start of a text.
use Rattle.std.proofs.Common.{◌≡◌, ℕ, suc, ◌+◌, ◌-◌, ◌≤◌, List, [], ◌∷◌, ◌++◌, length, drop, refl, sym, ap, ◌∙◌, Bool, true, false, cond, arith, subst, slice_index, nat_lt}
use Rattle.std.specs.Prelude.{Option, Some, option_map, ◌==◌, ℤ, pos, negsuc, neg_ℤ, ◌^◌}
use Rattle.st_values.specs.Durations.{interval_read, signed_interval_read}
use Rattle.st_values.specs.Numbers.{capped, capped_signed, negative}
use Rattle.st_tokens.specs.Forms.{time_of}
use Rattle.st_tokens.specs.Scanning.{run, interval_at, signed_interval_at, positive_found, negative_found}
use Rattle.st_tokens.proofs.Intervals.{interval_found, interval_only}
use Rattle.st_tokens.proofs.Literals.{capped_negative, first_is, no_start, mapped_parts, mapped_some}
use Rattle.st_tokens.proofs.Numbers.{Found, Alive}
use Rattle.st_tokens.proofs.Cases.{at_least, below, not_below, by_test}

-- the longest prefix that reads as an interval with an optional `-`
abbrev pub DurationFound : List ℕ → List ℕ → ℤ → Type 0
DurationFound text rest v = Found signed_interval_read capped_signed text rest v

-- after a `-` what is read is the longest
minus_found : (text tail rest : List ℕ) (v : ℤ) → text ≡ 45 ∷ tail → option_map negative_found (interval_at tail) ≡ Some (v, rest) → DurationFound text rest v
minus_found text tail rest v e h =
    let m = mapped_parts negative (interval_at tail) v rest h in
    let f = interval_found tail rest m.0 m.1 in
    record {
      prefix = 45 ∷ f.prefix;
      value = negative f.value;
      same = m.2 ∙ ap negative f.same ∙ capped_negative f.value;
      splits = e ∙ ap (λ (zs : List ℕ). 45 ∷ zs) f.splits;
      reads = ap (option_map negative) f.reads;
      ends = f.ends;
      covers = let r : run text ≡ [] = rw e refl in rw r (omega arith);
      longest = λ other back w g r. longest f other back w g r;
    } where
      longest : (f : Found interval_read capped tail rest (mapped_parts negative (interval_at tail) v rest h).0) (other back : List ℕ) (w : ℤ)
          → text ≡ other ++ back → signed_interval_read other ≡ Some w → length other ≤ length (45 ∷ f.prefix)
      longest f [] back w g r = omega arith
      longest f (c ∷ other) back w g r =
          let k : 45 ∷ tail ≡ c ∷ (other ++ back) = sym e ∙ g in
          let head : c ≡ 45 = cc in let split : tail ≡ other ++ back = cc in
          let read : option_map negative (interval_read other) ≡ Some w = subst (λ x. signed_interval_read (x ∷ other) ≡ Some w) head r in
          let n = mapped_some negative (interval_read other) w read in
          let le = f.longest other back n.0 split n.1 in omega arith

-- without a sign
abbrev signed_by : Bool → List ℕ → Option ℤ
signed_by m text = cond m (option_map negative (interval_read (drop 1 text))) (option_map pos (interval_read text))

-- reading goes by the test
signed_test : (text : List ℕ) (m : Bool) → (slice_index text 0 == 45) ≡ m → signed_interval_read text ≡ signed_by m text
signed_test text m e = ap (λ (x : Bool). signed_by x text) e

-- a prefix of a text without a sign has none
unsigned_reads : (text prefix back : List ℕ) → text ≡ prefix ++ back → (slice_index text 0 == 45) ≡ false → signed_interval_read prefix ≡ option_map pos (interval_read prefix)
unsigned_reads text prefix back e m = signed_test prefix false (no_start 45 text prefix back refl e m)

-- without a `-` what is read is the longest
unsigned_found : (text rest : List ℕ) (v : ℤ) → (slice_index text 0 == 45) ≡ false → option_map positive_found (interval_at text) ≡ Some (v, rest) → DurationFound text rest v
unsigned_found text rest v m h =
    let q = mapped_parts pos (interval_at text) v rest h in
    let f = interval_found text rest q.0 q.1 in
    record {
      prefix = f.prefix;
      value = pos f.value;
      same = q.2 ∙ ap pos f.same;
      splits = f.splits;
      reads = unsigned_reads text f.prefix rest f.splits m ∙ ap (option_map pos) f.reads;
      ends = f.ends;
      covers = f.covers;
      longest = λ other back w e r.
          let n = mapped_some pos (interval_read other) w (sym (unsigned_reads text other back e m) ∙ r) in f.longest other back n.0 e n.1;
    }

-- what is read is the longest
pub signed_interval_found : (text rest : List ℕ) (v : ℤ) → signed_interval_at text ≡ Some (v, rest) → DurationFound text rest v
unfolding signed_interval_at
signed_interval_found text rest v h = by_test (slice_index text 0 == 45)
    (λ t. minus_found text (drop 1 text) rest v (first_is 45 text refl t) (rw t at h))
    (λ t. unsigned_found text rest v t (rw t at h))

-- an interval is not empty
empty_interval : (n : ℕ) → interval_read [] ≡ Some n → ⊥
unfolding interval_read
empty_interval n h = cc

-- an interval with an optional `-` that nothing continues is read
pub signed_interval_only : (text prefix rest : List ℕ) (z : ℤ) → text ≡ prefix ++ rest → signed_interval_read prefix ≡ Some z → Alive rest
    → signed_interval_at text ≡ Some (capped_signed z, rest)
unfolding signed_interval_at
signed_interval_only text prefix rest z e h alive = by_test (slice_index prefix 0 == 45)
    (λ t. let f = first_is 45 prefix refl t in let g : text ≡ 45 ∷ (drop 1 prefix ++ rest) = e ∙ ap (λ (zs : List ℕ). zs ++ rest) f in
    let n = mapped_some negative (interval_read (drop 1 prefix)) z (sym (signed_test prefix true t) ∙ h) in
    let d = interval_only (drop 1 prefix ++ rest) (drop 1 prefix) rest n.0 refl n.1 alive.ends in
    rw g (ap (option_map negative_found) d ∙ ap (λ (x : ℤ). let r : Option (ℤ × List ℕ) = Some (x, rest) in r) (capped_negative n.0 ∙ ap capped_signed (sym n.2))))
    (λ t. let n = mapped_some pos (interval_read prefix) z (sym (signed_test prefix false t) ∙ h) in
    let d = interval_only text prefix rest n.0 e n.1 alive.ends in
    rw (same_start t n.0 n.1) (ap (option_map positive_found) d ∙ ap (λ (x : ℤ). let r : Option (ℤ × List ℕ) = Some (capped_signed x, rest) in r) (sym n.2))) where
      same_start : (slice_index prefix 0 == 45) ≡ false → (n : ℕ) → interval_read prefix ≡ Some n → (slice_index text 0 == 45) ≡ false
      same_start t n k = by_prefix prefix refl k where
        by_prefix : (f : List ℕ) → prefix ≡ f → interval_read f ≡ Some n → (slice_index text 0 == 45) ≡ false
        by_prefix [] g r = absurd (empty_interval n r)
        by_prefix (c ∷ f) g r = let same = e ∙ ap (λ (zs : List ℕ). zs ++ rest) g in
            subst (λ zs. (slice_index zs 0 == 45) ≡ false) (sym same) (subst (λ zs. (slice_index zs 0 == 45) ≡ false) g t)

-- ---- what a duration counts as

-- holding a number down changes nothing that a duration counts as
pub time_of-capped : (z : ℤ) → time_of (capped_signed z) ≡ time_of z
time_of-capped (pos n) = by_test (nat_lt n (2 ^ 63))
    (λ t. let small = below n (2 ^ 63) t in let e : capped n ≡ n = omega arith in ap (λ (m : ℕ). time_of (pos m)) e)
    (λ t. let big = not_below n (2 ^ 63) t in let u = at_least (capped n) (2 ^ 63) (omega arith) in rw (t, u) refl)
time_of-capped (negsuc n) = by_test (nat_lt n (2 ^ 63))
    (λ t. let small = below n (2 ^ 63) t in let e : capped (n + 1) ≡ suc n = omega arith in ap (λ (m : ℕ). time_of (neg_ℤ (pos m))) e)
    (λ t. let big = not_below n (2 ^ 63) t in let e : capped (n + 1) ≡ suc (capped (n + 1) - 1) = omega arith in
    let u = at_least (capped (n + 1) - 1) (2 ^ 63) (omega arith) in
    ap (λ (m : ℕ). time_of (neg_ℤ (pos m))) e ∙ rw (t, u) refl)
