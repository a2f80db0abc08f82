-- Edges and dominant inputs, by cases.
use Rattle.std.proofs.Common.{◌≡◌, Bool, true, false, ◌&&◌, ◌||◌, not, IsTrue, IsFalse, refl}
use Rattle.st_blocks.specs.Laws.{EdgesAreFound, ResetDominates, SetDominates}

unless_not : (later earlier : Bool) → (later && not (not earlier)) ≡ (later && earlier)
unless_not later true = refl
unless_not later false = refl

-- an input that has just had a value can't turn to it
not_again : (now memory later : Bool) → IsTrue (now && not memory) → IsFalse (later && not now)
not_again true memory true h = refl
not_again true memory false h = refl
not_again false memory later h = cc

pub edges_found : EdgesAreFound
edges_found t earlier later = record {
  rising = refl;
  falling = unless_not (not later) earlier;
  rising_once = λ h. not_again t.clk t.memory later h;
  falling_once = λ h. not_again (not t.clk) t.memory (not later) h;
}

set_wins : (set held : Bool) → IsTrue set → IsTrue (set || held)
set_wins true held h = refl
set_wins false held h = cc

reset_alone : (set reset q : Bool) → IsFalse set → IsTrue reset → IsFalse (set || (not reset && q))
reset_alone false true q a b = refl
reset_alone true reset q a b = cc
reset_alone false false q a b = cc

neither : (set reset q : Bool) → IsFalse set → IsFalse reset → (set || (not reset && q)) ≡ q
neither false false q a b = refl
neither true reset q a b = cc
neither false true q a b = cc

pub set_dominates : SetDominates
set_dominates b = record {
  set = λ h. set_wins b.set (not b.reset && b.q) h;
  reset = λ s r. reset_alone b.set b.reset b.q s r;
  held = λ s r. neither b.set b.reset b.q s r;
}

reset_wins : (reset held : Bool) → IsTrue reset → IsFalse (not reset && held)
reset_wins true held h = refl
reset_wins false held h = cc

set_alone : (reset set q : Bool) → IsFalse reset → IsTrue set → IsTrue (not reset && (set || q))
set_alone false true q a b = refl
set_alone true set q a b = cc
set_alone false false q a b = cc

neither_of : (reset set q : Bool) → IsFalse reset → IsFalse set → (not reset && (set || q)) ≡ q
neither_of false false q a b = refl
neither_of true set q a b = cc
neither_of false true q a b = cc

pub reset_dominates : ResetDominates
reset_dominates b = record {
  reset = λ h. reset_wins b.reset (b.set || b.q) h;
  set = λ r s. set_alone b.reset b.set b.q r s;
  held = λ r s. neither_of b.reset b.set b.q r s;
}
