-- Functions that are passed to others: tests of the first token, and readers of an item.
use Rattle.std.specs.Prelude.{◌≡◌, ◌<◌, Bool, List, length, Option, Result, OnOk}
use Rattle.std.specs.Borrow.{Bor, MutBor}
use Rattle.std.specs.declared.alloc.Global.{Global}
use Rattle.st_parser.specs.Names.{Kind, ReadFault}
use Rattle.st_parser.specs.Grammar.Tokens.{Tok, kind}
use Rattle.st_parser.specs.Reader.Parsers.{Parser, Takes}

-- what a reader of items needs before a call, and what holds after it
abbrev pub Before : Type 1
Before = Global → MutBor (List Tok) → Type 0

abbrev pub After : Type 0 → Type 1
After A = Global → MutBor (List Tok) → Result A ReadFault → MutBor (List Tok) → Type 0

-- it may be called at any tokens, and takes at least one of them
pub record IsReader {A : Type 0} (pre : Before) (post : After A) : Type 0 where
  pub callable : (alloc : Global) (old : MutBor (List Tok)) → pre alloc old
  pub shorter : (alloc : Global) (old new : MutBor (List Tok)) (r : Result A ReadFault) → post alloc old r new → OnOk r (length new.now < length old.now)

-- it reads what the parser does
abbrev pub ReadsAs : {A : Type 0} → Parser A → After A → Type 0
ReadsAs {A} p post = (alloc : Global) (old new : MutBor (List Tok)) (r : Result A ReadFault) → post alloc old r new → Takes (p old.now) r old.now new.now

-- it may be called at any tokens
abbrev pub IsTest : (Bor (List Tok) → Type 0) → Type 0
IsTest pre = (ts : Bor (List Tok)) → pre ts

-- it tests what the first token is
abbrev pub TestsAs : (Option Kind → Bool) → (Bor (List Tok) → Bool → Type 0) → Type 0
TestsAs test post = (ts : Bor (List Tok)) (r : Bool) → post ts r → r ≡ test (kind ts.now)
