use Rattle.std.proofs.Common.{◌∙◌, ap}
use Rattle.st_check.specs.Programs.{text_of}
use Rattle.st_control.proofs.image.load_image.Goals as goal

pub returns-clause-only : goal.returns-clause-only
returns-clause-only c = λ units accepted. ap text_of c.in_ok-compile.ensures.program ∙ c.in_ok-program.ensures.only units accepted
