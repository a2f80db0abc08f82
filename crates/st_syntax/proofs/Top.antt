-- The tokens of a whole text.
use Rattle.std.proofs.Common.{◌≡◌, ℕ, ◌≤◌, ◌^◌, List, [], ◌∷◌, length, refl, sym, subst, ◌∙◌, arith}
use Rattle.std.specs.Prelude.{Option, Ok, Err}
use Rattle.st_tokens.specs.declared.fault.SyntaxFault.{SyntaxFault}
use Rattle.st_tokens.specs.declared.fault.SyntaxFault.TheVariants as syntax_faults
use Rattle.st_tokens.specs.Text.{HasTokens}
use Rattle.st_tokens.proofs.Reading.{one_list}
use Rattle.st_parser.specs.Names as names
use Rattle.st_parser.specs.Names.{Position, ReadFault, Token}
use Rattle.st_parser.specs.Grammar.Faults.{in_text}
use Rattle.st_parser.specs.Grammar.Levels.{IsWithin}
use Rattle.st_parser.specs.Grammar.Lists.{IsMany}
use Rattle.st_parser.specs.Grammar.Tokens.{Tok, numbered}
use Rattle.st_parser.specs.Reader.Parsers.{Deep, Outcome, Refuses, and_then}
use Rattle.st_parser.specs.declared.fault.ReadFault.TheVariants as read_faults
use Rattle.st_parser.proofs.Exact.{Exact, Always, Any, Ends}
use Rattle.st_parser.proofs.Levels.{At, fits_from, within_from}
use Rattle.st_parser.proofs.Loops.{ok_parts}
use Rattle.st_parser.proofs.TokenLemmas.{length_numbered}
use Rattle.st_syntax.specs.Lengths.{IsShort}
use Rattle.st_syntax.specs.Grammar.Texts.{IsTextOf, Explains}
use Rattle.st_syntax.specs.Grammar.Units.{IsUnit, AreUnits}
use Rattle.st_syntax.specs.Reader.Declarations.{in_brackets}
use Rattle.st_syntax.specs.Reader.Units.{units, begins_unit, ended, whole}
use Rattle.st_syntax.proofs.UnitLengths.{units_take}
use Rattle.st_syntax.proofs.UnitsExact.{units_exact}

pub top : Exact 0 (units in_brackets) Always (IsMany IsUnit) (Ends begins_unit Any) (At 64) (At 64)
top = units_exact 62

-- what is in the grammar is read, up to the last token
read_all : (ts : List Tok) (us : List names.Unit) → AreUnits ts us → IsWithin 64 ts → units in_brackets ts ≡ Ok (us, [])
read_all ts us are within = top.read ts us [] tt are (refl, tt) (fits_from ts 64 within)

pub whole_all : (ts : List Tok) (us : List names.Unit) → AreUnits ts us → IsWithin 64 ts → whole ts ≡ Ok (us, [])
unfolding whole
whole_all ts us are within = rw (read_all ts us are within) refl

-- what is read up to the last token is the units
ended_units : (o : Outcome (List names.Unit)) (us : List names.Unit) → and_then o ended ≡ Ok (us, []) → o ≡ Ok (us, [])
ended_units (Ok (vs, [])) us h = h
ended_units (Ok (vs, t ∷ ts)) us h = absurd (cc)
ended_units (Err r) us h = absurd (cc)

-- what is too deep is so before the end
ended_deep : (o : Outcome (List names.Unit)) (at : Option Position) → and_then o ended ≡ Err (Deep at) → o ≡ Err (Deep at)
ended_deep (Ok (vs, [])) at h = absurd (cc)
ended_deep (Ok (vs, t ∷ ts)) at h = absurd (cc)
ended_deep (Err r) at h = h

module _ (text : List ℕ) (tokens : List Token) (has : HasTokens 1 text tokens) where
  pub found : (us : List names.Unit) → whole (numbered 0 tokens) ≡ Ok (us, []) → IsTextOf text us
  unfolding whole
  found us read =
      let u = top.reads (numbered 0 tokens) us [] tt (ended_units (units in_brackets (numbered 0 tokens)) us read) in
      record {
        tokens = tokens;
        has = has;
        are = u.is;
        within = within_from (numbered 0 tokens) 64 (u.before tt);
      }

  -- each token counts for no more than itself
  pub short_text : (us : List names.Unit) → whole (numbered 0 tokens) ≡ Ok (us, []) → length tokens ≤ 2 ^ 20 → IsShort us
  unfolding IsShort found
  short_text us read few =
      let are : AreUnits (numbered 0 tokens) us = (found us read).are in
      let takes = units_take are in
      omega (arith, takes, length_numbered 0 tokens, few)

  pub refused : (last : ℕ) (f : ReadFault) → Refuses (whole (numbered 0 tokens)) f → Explains (in_text last f) text
  unfolding whole
  refused last read_faults.Memory h = tt
  refused last (read_faults.NotInGrammar at) h = record {
    tokens = tokens;
    has = has;
    never = λ us are within. let wrong = sym h ∙ whole_all (numbered 0 tokens) us are within in absurd (cc);
  }
  refused last (read_faults.TooDeep at) h = record {
    tokens = tokens;
    has = has;
    deeper = λ within. top.deep (numbered 0 tokens) at tt (ended_deep (units in_brackets (numbered 0 tokens)) at h) (fits_from (numbered 0 tokens) 64 within);
  }

same_tokens : (text : List ℕ) (a b : List Token) (M : List Token → Type 0) → HasTokens 1 text a → HasTokens 1 text b → M a → M b
same_tokens text a b M h k m = subst M (one_list h k) m

pub one_text : (text : List ℕ) (us vs : List names.Unit) → IsTextOf text us → IsTextOf text vs → us ≡ vs
one_text text us vs a b =
    let are = same_tokens text b.tokens a.tokens (λ ts. AreUnits (numbered 0 ts) vs) b.has a.has b.are in
    (ok_parts (sym (read_all (numbered 0 a.tokens) us a.are a.within) ∙ read_all (numbered 0 a.tokens) vs are a.within)).0

-- a text that is units is refused for want of memory alone
pub only_memory : (text : List ℕ) (f : SyntaxFault) (us : List names.Unit) → Explains f text → length text ≤ 2 ^ 20 → IsTextOf text us → f ≡ syntax_faults.Memory
only_memory text syntax_faults.Memory us h short t = refl
only_memory text (syntax_faults.NoToken line) us h short t = absurd (h t.tokens t.has)
only_memory text (syntax_faults.NotInGrammar line) us h short t =
    absurd (h.never us (same_tokens text t.tokens h.tokens (λ ts. AreUnits (numbered 0 ts) us) t.has h.has t.are) (same_tokens text t.tokens h.tokens (λ ts. IsWithin 64 (numbered 0 ts)) t.has h.has t.within))
only_memory text (syntax_faults.TooDeep line) us h short t =
    absurd (h.deeper (same_tokens text t.tokens h.tokens (λ ts. IsWithin 64 (numbered 0 ts)) t.has h.has t.within))
only_memory text syntax_faults.TooLong us h short t = absurd (omega (arith, h, short))
