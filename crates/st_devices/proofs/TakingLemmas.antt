-- Lemmas on taking bytes off what a source has.
use Rattle.std.proofs.Common.{◌≡◌, ℕ, ◌+◌, ◌-◌, ◌<◌, Bool, true, false, List, [], ◌∷◌, ◌++◌, length, get_or, refl, ap, sym, ◌∙◌, arith, suc, add-one, slice_range, subst, append_assoc}
use Rattle.std.specs.Prelude.{Option, Some, None, Result, Ok, Err, OnErr, if◌then◌else◌}
use Rattle.std.specs.Io.KnownBytes.{Keeps, prepend_known}
use Rattle.std.proofs.Math.Seq.{drop-cons}
use Rattle.st_devices.specs.Pending.{OnBytes, OnReading, TakesByte, TakesFound}
use Rattle.st_devices.specs.declared.input.Found.{Found}

-- what holds of all bytes holds of those that are known
pub OnBytes-all : (known : Option (List ℕ)) (P : List ℕ → Type 0) → ((bytes : List ℕ) → P bytes) → OnBytes known P
OnBytes-all None P all = ([], tt, all [])
OnBytes-all (Some bytes) P all = (bytes, refl, all bytes)

pub OnBytes-then : (known : Option (List ℕ)) (P Q : List ℕ → Type 0) → ((bytes : List ℕ) → P bytes → Q bytes) → OnBytes known P → OnBytes known Q
OnBytes-then known P Q weaken p = (p.0, p.1, weaken p.0 p.2)

-- a step of which something else follows
pub OnReading-then : (a b : Option (List ℕ)) (P Q : List ℕ → List ℕ → Type 0) → ((x y : List ℕ) → P x y → Q x y) → OnReading a b P → OnReading a b Q
OnReading-then a b P Q weaken p = λ rest can_be. OnBytes-then a (λ bytes. P bytes rest) (λ bytes. Q bytes rest) (λ bytes. weaken bytes rest) (p rest can_be)

-- two steps, one after the other
pub OnReading-trans : (a b c : Option (List ℕ)) (P Q R : List ℕ → List ℕ → Type 0) → ((x y z : List ℕ) → P x y → Q y z → R x z) → OnReading a b P → OnReading b c Q → OnReading a c R
OnReading-trans a b c P Q R both p q = λ rest can_be.
    let second = q rest can_be in
    let first = p second.0 second.1 in
    (first.0, first.1, both first.0 second.0 rest first.2 second.2)

-- a step, and then what holds of the bytes that are left
pub OnReading-OnBytes : (a b : Option (List ℕ)) (P : List ℕ → List ℕ → Type 0) (Q R : List ℕ → Type 0) → ((x y : List ℕ) → P x y → Q y → R x) → OnReading a b P → OnBytes b Q → OnBytes a R
OnReading-OnBytes a b P Q R both p q =
    let first = p q.0 q.1 in
    (first.0, first.1, both first.0 q.0 first.2 q.2)

-- a step, whatever bytes are left
pub OnReading-end : (a b : Option (List ℕ)) (P : List ℕ → List ℕ → Type 0) (Q : List ℕ → Type 0) → ((x y : List ℕ) → P x y → Q x) → OnReading a b P → OnBytes a Q
OnReading-end a b P Q weaken p = OnReading-OnBytes a b P (λ _. Unit {0}) Q (λ x y first _. weaken x y first) p (OnBytes-all b (λ _. Unit {0}) (λ _. tt))

-- no step
pub OnReading-same : (a : Option (List ℕ)) (P : List ℕ → List ℕ → Type 0) → ((x : List ℕ) → P x x) → OnReading a a P
OnReading-same a P each = λ rest can_be. (rest, can_be, each rest)

slice_range-cons : (bytes : List ℕ) (at end byte : ℕ) → at < end → at < length bytes → byte ≡ get_or bytes at byte → slice_range bytes at end ≡ byte ∷ slice_range bytes (at + 1) end
slice_range-cons bytes at end byte some within is =
    let size : end - at ≡ suc (end - (at + 1)) = omega arith in
    rw (size, drop-cons bytes at byte, ← is, add-one) refl

-- a front of what is unread is taken, where what is pending was kept
pub takes_front : (front unread left : List ℕ) (at_end : Bool) (old rest : Option (List ℕ)) → unread ≡ front ++ left → Keeps old (if at_end then Some unread else prepend_known unread rest)
    → OnReading old (if at_end then Some left else prepend_known left rest) (λ bytes more. bytes ≡ front ++ more)
takes_front front unread left at_end None rest split same = λ more _. (front ++ more, tt, refl)
takes_front front unread left true (Some xs) rest split same = λ more can_be. (xs, refl, sym same ∙ split ∙ ap (λ ys. front ++ ys) (sym can_be))
takes_front front unread left false (Some xs) None split same = absurd same
takes_front front unread left false (Some xs) (Some ys) split same =
    λ more can_be. (xs, refl, sym same ∙ ap (λ zs. zs ++ ys) split ∙ append_assoc front left ys ∙ ap (λ zs. front ++ zs) (sym can_be))

-- the first unread byte is taken, where what is pending was kept
pub takes_unread : (buffer : List ℕ) (at end byte : ℕ) (at_end : Bool) (old rest : Option (List ℕ)) → at < end → at < length buffer → byte ≡ get_or buffer at byte
    → Keeps old (if at_end then Some (slice_range buffer at end) else prepend_known (slice_range buffer at end) rest)
    → OnReading old (if at_end then Some (slice_range buffer (at + 1) end) else prepend_known (slice_range buffer (at + 1) end) rest) (TakesByte (Some byte))
takes_unread buffer at end byte at_end old rest some within is same =
    takes_front (byte ∷ []) (slice_range buffer at end) (slice_range buffer (at + 1) end) at_end old rest (slice_range-cons buffer at end byte some within is) same

-- a read that failed took nothing
pub takes_nothing : (unread : List ℕ) (at_end : Bool) (old new : Option (List ℕ)) → unread ≡ [] → at_end ≡ false → Keeps old new
    → OnReading (if at_end then Some unread else prepend_known unread old) new (λ bytes rest. bytes ≡ rest)
takes_nothing unread true old new none going same = cc going
takes_nothing unread false None new none going same = λ more _. (more, tt, refl)
takes_nothing unread false (Some xs) None none going same = absurd same
takes_nothing unread false (Some xs) (Some ys) none going same = λ more can_be. rw none (xs, refl, sym same ∙ sym can_be)

-- the same fact of an equal answer
pub TakesByte-same : (o p : Option ℕ) (a b : Option (List ℕ)) → OnReading a b (TakesByte o) → o ≡ p → OnReading a b (TakesByte p)
TakesByte-same o p a b takes same = subst (λ (q : Option ℕ). OnReading a b (TakesByte q)) same takes

pub TakesFound-same : (o p : Found) (at_end : Bool) (a b : Option (List ℕ)) (text : List ℕ) → OnReading a b (TakesFound o at_end text) → o ≡ p → OnReading a b (TakesFound p at_end text)
TakesFound-same o p at_end a b text takes same = subst (λ (q : Found). OnReading a b (TakesFound q at_end text)) same takes

-- what holds in any case holds of an error
pub OnErr-from : {T E P : Type 0} (r : Result T E) → P → OnErr r P
OnErr-from (Ok x) holds = tt
OnErr-from (Err e) holds = holds

pub OnErr-then : {T E P Q : Type 0} (r : Result T E) → (P → Q) → OnErr r P → OnErr r Q
OnErr-then (Ok x) weaken holds = tt
OnErr-then (Err e) weaken holds = weaken holds

-- what has not ended had not ended before
pub not_ended_before : (old new : Bool) → (old ≡ true → new ≡ true) → new ≡ false → old ≡ false
not_ended_before true new ended now = cc (ended refl, now)
not_ended_before false new ended now = refl
