-- What a counter counts, by cases.
use Rattle.std.proofs.Common.{◌≡◌, ℤ, pos, negsuc, ◌+ℤ◌, ◌-ℤ◌, ◌<ℤ◌, ◌≤ℤ◌, Bool, true, false, ◌&&◌, not, IsTrue, IsFalse, int_le, int_lt, if◌then◌else◌, refl, arith}
use Rattle.std.proofs.lemmas.Int.{ints}
use Rattle.st_blocks.specs.Blocks.{is_edge}
use Rattle.st_blocks.specs.Laws.{CountersMoveByOne, CountsDown, CountsUp}
use Rattle.st_blocks.specs.declared.counter.Counter.{Counter}

less : (a b : ℤ) → a <ℤ b → IsTrue (int_lt a b)
less a b h = grind (arith, ints)

not_less : (a b : ℤ) → b ≤ℤ a → IsFalse (int_lt a b)
not_less a b h = grind (arith, ints)

at_most : (a b : ℤ) → a ≤ℤ b → IsTrue (int_le a b)
at_most a b h = grind (arith, ints)

is_at_most : (a b : ℤ) → IsTrue (int_le a b) → a ≤ℤ b
is_at_most a b h = grind (arith, ints)

-- what a counter holds: what it begins with, the next number, or what it held
abbrev held : Bool → Bool → Bool → ℤ → ℤ → ℤ → ℤ
held restart edge before begun next now = if restart then begun else (if edge && before then next else now)

held_edge : (restart edge before : Bool) (begun next now : ℤ) → IsFalse restart → IsTrue edge → IsTrue before → held restart edge before begun next now ≡ next
held_edge false true true begun next now r e b = refl
held_edge true edge before begun next now r e b = cc
held_edge false false before begun next now r e b = cc
held_edge false true false begun next now r e b = cc

held_last : (restart edge before : Bool) (begun next now : ℤ) → IsFalse restart → IsFalse before → held restart edge before begun next now ≡ now
held_last false true false begun next now r b = refl
held_last false false before begun next now r b = refl
held_last true edge before begun next now r b = cc
held_last false true true begun next now r b = cc

held_none : (restart edge before : Bool) (begun next now : ℤ) → IsFalse restart → IsFalse edge → held restart edge before begun next now ≡ now
held_none false false before begun next now r e = refl
held_none true edge before begun next now r e = cc
held_none false true before begun next now r e = cc

held_begun : (restart edge before : Bool) (begun next now : ℤ) → IsTrue restart → held restart edge before begun next now ≡ begun
held_begun true edge before begun next now r = refl
held_begun false edge before begun next now r = cc

-- an input that stays TRUE has no edge
no_edge : (pulse : Bool) → IsFalse (pulse && not pulse)
no_edge true = refl
no_edge false = refl

counts_up : (c : Counter) → CountsUp c
counts_up c = record {
  edge = λ r e b. held_edge c.restart (is_edge c) (int_lt c.cv (pos 32767)) (pos 0) (c.cv +ℤ pos 1) c.cv r e (less c.cv (pos 32767) b);
  last = λ r b. held_last c.restart (is_edge c) (int_lt c.cv (pos 32767)) (pos 0) (c.cv +ℤ pos 1) c.cv r (not_less c.cv (pos 32767) b);
  none = λ r e. held_none c.restart (is_edge c) (int_lt c.cv (pos 32767)) (pos 0) (c.cv +ℤ pos 1) c.cv r e;
  once = λ r p. held_none c.restart (c.pulse && not c.pulse) _ (pos 0) _ _ r (no_edge c.pulse);
  edges = λ later. refl;
  begun = λ r. held_begun c.restart (is_edge c) (int_lt c.cv (pos 32767)) (pos 0) (c.cv +ℤ pos 1) c.cv r;
  output = (is_at_most _ _, at_most _ _);
}

counts_down : (c : Counter) → CountsDown c
counts_down c = record {
  edge = λ r e b. held_edge c.restart (is_edge c) (int_lt (negsuc 32767) c.cv) c.pv (c.cv -ℤ pos 1) c.cv r e (less (negsuc 32767) c.cv b);
  last = λ r b. held_last c.restart (is_edge c) (int_lt (negsuc 32767) c.cv) c.pv (c.cv -ℤ pos 1) c.cv r (not_less (negsuc 32767) c.cv b);
  none = λ r e. held_none c.restart (is_edge c) (int_lt (negsuc 32767) c.cv) c.pv (c.cv -ℤ pos 1) c.cv r e;
  once = λ r p. held_none c.restart (c.pulse && not c.pulse) _ c.pv _ _ r (no_edge c.pulse);
  edges = λ later. refl;
  begun = λ r. held_begun c.restart (is_edge c) (int_lt (negsuc 32767) c.cv) c.pv (c.cv -ℤ pos 1) c.cv r;
  output = (is_at_most _ _, at_most _ _);
}

pub counters_move : CountersMoveByOne
counters_move c = (counts_up c, counts_down c)
