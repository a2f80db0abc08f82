-- The levels that may still be opened, and what is kept of what was read.
use Rattle.std.proofs.Common.{◌≡◌, ℕ, zero, suc, ◌<◌, true, List, [], ◌∷◌, length, refl, sym, subst, arith}
use Rattle.std.specs.Prelude.{Result, Ok, Err, IfOk, IfErr}
use Rattle.st_parser.specs.Names.{Position, ReadFault, Symbol}
use Rattle.st_parser.specs.Grammar.Tokens.{Tok, kind, place, position, next}
use Rattle.st_parser.proofs.Loops.{ok_parts, refused_read}
use Rattle.st_parser.specs.Reader.Parsers.{IsFaultOf, Outcome, Deep, Parser, Takes, MayTake, is_symbol, enter, open_level, next_item}

pub enter_none : (r : ℕ) (ts : List Tok) → r ≡ 0 → enter r ts ≡ Err (Deep (place ts))
unfolding enter
enter_none zero ts none = refl
enter_none (suc r) ts none = absurd (omega arith)

pub enter_some : (r : ℕ) (ts : List Tok) → (r ≡ 0 → ⊥) → enter r ts ≡ Ok (position ts, next ts)
unfolding enter
enter_some zero ts some = absurd (some refl)
enter_some (suc r) ts some = refl

-- what is kept of what was read is read too
pub takes_kept : {A : Type 0} (o : Outcome A) (read kept : Result A ReadFault) (old new : List Tok) → IfOk kept (λ x. read ≡ Ok x) → IfErr kept (IsFaultOf read)
    → Takes o read old new → Takes o kept old new
takes_kept o read (Ok x) old new same fault takes = rw (sym same) takes
takes_kept o read (Err f) old new same fault takes = record { reads = refused_read o read new f fault takes.reads; shorter = tt }

-- what enters a level at a symbol takes the symbol
pub open_level_takes : (x : Symbol) (d : ℕ) (ts new : List Tok) (r : Result Position ReadFault) → is_symbol x (kind ts) ≡ true
    → MayTake (enter d ts) r ts new → Takes (open_level x d ts) r ts new
unfolding open_level enter
open_level_takes x d [] new r h m = absurd (cc)
open_level_takes x zero (t ∷ ts) new (Ok a) h m = absurd (let wrong = m.reads in cc)
open_level_takes x (suc d) (t ∷ ts) new (Ok a) h m = record {
  reads = rw h m.reads;
  shorter = subst (λ us. length us < suc (length ts)) (ok_parts m.reads).1 (omega arith);
}
open_level_takes x d (t ∷ ts) new (Err f) h m = record { reads = rw h m.reads; shorter = tt }

-- ',' item
pub next_at : {A : Type 0} (item : Parser A) (ts us : List Tok) → us ≡ next ts → next_item item ts ≡ item us
unfolding next_item
next_at item ts us e = rw e refl
