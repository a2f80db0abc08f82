-- The states that the records of a controller lead back to.
use Rattle.std.proofs.Common.{ℕ, suc, Bool, true, nat_le, ◌≡◌, ◌<◌, ◌-◌, List, [], ◌∷◌, ◌++◌, length, inl, refl, sym, ◌∙◌, ap, subst, arith, get_or}
use Rattle.std.specs.Prelude.{Err, Ok, Result, Some, false, reverse, slice_get}
use Rattle.std.proofs.lemmas.List.{get_or-reverse, length-reverse, reverse-append}
use Rattle.std.proofs.lemmas.Option.{get_or_from_slice_get, slice_get_within}
use Rattle.st_control.specs.Controllers.{ControllerView, FitsChain, IsCoherent, Takes, TakesUndo, is_of_change, machine_of, states_before}
use Rattle.st_control.specs.Machine.{accept, accept_at, is_full}
use Rattle.st_control.specs.States.{FitsRecord, StateView, undone}
use Rattle.st_control.specs.declared.record.Record.{Record}
use Rattle.st_control.specs.declared.refusal.Refusal.{Refusal}

-- the same controller in another state, with one record more
abbrev pub kept : ControllerView → StateView → Record → ControllerView
kept c s left = record { state = s; records = c.records ++ left ∷ []; main = c.main; limit = c.limit }

-- a record that leads back to the state before stands for that state
pub machine_of-kept : (c : ControllerView) (s : StateView) (left : Record) → undone s left ≡ c.state → machine_of (kept c s left) ≡ accept (machine_of c) (is_of_change left) s
machine_of-kept c s left back =
    rw (reverse-append c.records (left ∷ []))
    (ap (λ (t : StateView). accept (record { state = t; history = states_before t (reverse c.records); main = c.main; limit = c.limit }) (is_of_change left) s) back)

-- it makes the chain of the records one longer
pub coherent-kept : (before s : StateView) (records : List Record) (left : Record) → undone s left ≡ before → FitsRecord s left → IsCoherent before records → IsCoherent s (records ++ left ∷ [])
coherent-kept before s records left back fits coherent =
    rw (reverse-append records (left ∷ [])) (fits, subst (λ (t : StateView). FitsChain t (reverse records)) (sym back) coherent)

length-states_before : (s : StateView) (records : List Record) → length (states_before s records) ≡ length records
length-states_before s [] = refl
length-states_before s (newest ∷ records) = ap suc (length-states_before (undone s newest) records)

-- there are as many states to go back to as records
pub length-history : (c : ControllerView) → length (machine_of c).history ≡ length c.records
length-history c = length-states_before c.state (reverse c.records) ∙ length-reverse c.records

-- the list of records is full where the machine's history is
pub is_full-records : (c : ControllerView) (len : ℕ) → len ≡ length c.records → is_full (machine_of c) ≡ nat_le 256 len
is_full-records c len len_is = ap (nat_le 256) (length-history c ∙ sym len_is)

-- a command for which no leaf was found is refused
pub takes_refused : (c : ControllerView) (new : ℕ → StateView) (find : Bool → Result ℕ Refusal) (len : ℕ) (refusal : Refusal)
    → len ≡ length c.records → Err refusal ≡ find (nat_le 256 len)
    → Takes {A = Unit {0}} (accept_at (machine_of c) new (find (is_full (machine_of c)))) c (Err refusal) c
takes_refused c new find len refusal len_is found = rw (is_full-records c len len_is, ← found) (refl, refl)

-- a command that changed the leaf that was found, and kept a record that leads back, is accepted
pub takes_accepted : (c : ControllerView) (new : ℕ → StateView) (find : Bool → Result ℕ Refusal) (len leaf : ℕ) (s : StateView) (left : Record)
    → len ≡ length c.records → Ok leaf ≡ find (nat_le 256 len) → s ≡ new leaf → undone s left ≡ c.state → is_of_change left ≡ false
    → Takes {A = Unit {0}} (accept_at (machine_of c) new (find (is_full (machine_of c)))) c (Ok tt) (kept c s left)
takes_accepted c new find len leaf s left len_is found is back no_change =
    rw (is_full-records c len len_is, ← found)
    (refl, machine_of-kept c s left back ∙ (ap (λ by_change. accept (machine_of c) by_change s) no_change ∙ ap (accept (machine_of c) false) is))

-- an undo of the newest record goes back to the newest of the states
pub takes_undo : (c : ControllerView) (records : List Record) (newest : Record) (s : StateView) → c.records ≡ records ++ newest ∷ [] → s ≡ undone c.state newest
    → TakesUndo {A = Unit {0}} c (Ok tt) (record { state = s; records = records; main = c.main; limit = c.limit })
takes_undo c records newest s all back =
    rw (all, reverse-append records (newest ∷ []))
    (true, inl refl, (refl, ap (λ (t : StateView). machine_of (record { state = t; records = records; main = c.main; limit = c.limit })) back))

-- the newest record is the one that an undo takes, so it fits the state
pub newest_fits : (s : StateView) (records : List Record) (newest : Record) → slice_get records (length records - 1) ≡ Some newest → IsCoherent s records → FitsRecord s newest
newest_fits s records newest is coherent = go (reverse records) refl coherent
  where
    within : length records - 1 < length records
    within = slice_get_within records (length records - 1) newest is

    go : (back : List Record) → reverse records ≡ back → FitsChain s back → FitsRecord s newest
    go [] same fits =
        let none : length records ≡ 0 = sym (length-reverse records) ∙ ap length same in
        absurd (omega (arith, none, within))
    go (first ∷ others) same fits =
        let some : 0 < length records = omega (arith, within) in
        let last : length records - 1 - 0 ≡ length records - 1 = omega arith in
        let is_first : get_or (reverse records) 0 newest ≡ newest =
        get_or-reverse records 0 newest some ∙ ap (λ i. get_or records i newest) last ∙ get_or_from_slice_get records (length records - 1) newest newest is in
        subst (FitsRecord s) (sym (ap (λ xs. get_or xs 0 newest) same) ∙ is_first) fits.0
