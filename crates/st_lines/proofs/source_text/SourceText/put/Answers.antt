use Rattle.std.proofs.Common.{[], ◌∷◌, ◌++◌, List, ℕ, ap, append_assoc, sym, ◌∙◌}
use Rattle.st_devices.specs.Words.{words_of}
use Rattle.st_lines.specs.Commands.{is_end}
use Rattle.st_lines.proofs.SourceLemmas.{front_more}
use Rattle.st_lines.proofs.source_text.SourceText.put.Goals as goal

pub returns-clause-line : goal.returns-clause-line
returns-clause-line c = λ text line holds. record {
  lines = rw c.put-self.ensures.front.1 (front_more c.args.self.now.bytes.items c.put-self.ensures.front.0 text c.args.self.now.lines holds.lines);
  all = rw (append_assoc text line (c.args.byte ∷ [])) at (c.put-self.ensures.stored (text ++ line) holds.all);
  word = λ rest. c.with_byte-self.ensures rest ∙ holds.word (c.args.byte ∷ rest)
      ∙ ap (λ (xs : List ℕ). is_end (words_of xs)) (sym (append_assoc line (c.args.byte ∷ []) rest));
}
