use Rattle.std.proofs.Common.{[], ◌∷◌, ◌++◌, ℕ, ap, append-nil, sym}
use Rattle.st_lines.proofs.SourceLemmas.{strip-cr, strip-other}
use Rattle.st_lines.proofs.source_text.SourceText.take.Goals as goal

pub returns-then-byte-eq13 : goal.returns-then-byte-eq13
returns-then-byte-eq13 c = λ text part holds.
    let line = c.put_cr.ensures.line text part holds in
    record {
      line = part;
      is = ap (λ (byte : ℕ). part ++ byte ∷ []) c.if-byte-eq13.true;
      stripped = rw c.if-byte-eq13.true (strip-cr part);
      holds = record { lines = line.lines; all = line.all; word = line.word };
    }

pub returns-else-byte-eq13 : goal.returns-else-byte-eq13
returns-else-byte-eq13 c = λ text part holds. record {
  line = part ++ c.args.byte ∷ [];
  is = rw (c.put.ensures.cr, c.put_cr.ensures.cr) (sym (append-nil (part ++ c.args.byte ∷ [])));
  stripped = strip-other part c.args.byte c.if-byte-eq13.false;
  holds = c.put.ensures.line text part (c.put_cr.ensures.line text part holds);
}
