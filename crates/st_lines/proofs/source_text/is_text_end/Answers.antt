use Rattle.std.proofs.Common.{[], ap, ◌∙◌, sym}
use Rattle.st_lines.specs.SourceTexts.{ends_with}
use Rattle.st_lines.specs.declared.source_text.LineWord.{LineWord}
use Rattle.st_lines.proofs.EndLemmas.{is_end_front}
use Rattle.st_lines.proofs.source_text.is_text_end.Goals as goal

pub returns-in-Front : goal.returns-in-Front
returns-in-Front c = is_end_front c.in-Front.count ∙ ap (λ (word : LineWord). ends_with word []) (sym c.in-Front.is)
