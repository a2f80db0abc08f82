use Rattle.std.proofs.Common.{ap, arith, refl, ◌∙◌}
use Rattle.std.proofs.lemmas.Bool.Decides.{nat_tests}
use Rattle.st_tokens.specs.Words.{keywords_with, spellings}
use Rattle.st_tokens.proofs.Keywords.{no_keyword_with}
use Rattle.st_tokens.proofs.keyword.rows_with.Goals as goal

pub returns-in-97 : goal.returns-in-97
unfolding keywords_with spellings
returns-in-97 c = record { in_table = (omega arith, omega arith); all_with = ap keywords_with c.in-97.is ∙ refl }

pub returns-in-98 : goal.returns-in-98
unfolding keywords_with spellings
returns-in-98 c = record { in_table = (omega arith, omega arith); all_with = ap keywords_with c.in-98.is ∙ refl }

pub returns-in-99 : goal.returns-in-99
unfolding keywords_with spellings
returns-in-99 c = record { in_table = (omega arith, omega arith); all_with = ap keywords_with c.in-99.is ∙ refl }

pub returns-in-100 : goal.returns-in-100
unfolding keywords_with spellings
returns-in-100 c = record { in_table = (omega arith, omega arith); all_with = ap keywords_with c.in-100.is ∙ refl }

pub returns-in-101 : goal.returns-in-101
unfolding keywords_with spellings
returns-in-101 c = record { in_table = (omega arith, omega arith); all_with = ap keywords_with c.in-101.is ∙ refl }

pub returns-in-102 : goal.returns-in-102
unfolding keywords_with spellings
returns-in-102 c = record { in_table = (omega arith, omega arith); all_with = ap keywords_with c.in-102.is ∙ refl }

pub returns-in-105 : goal.returns-in-105
unfolding keywords_with spellings
returns-in-105 c = record { in_table = (omega arith, omega arith); all_with = ap keywords_with c.in-105.is ∙ refl }

pub returns-in-109 : goal.returns-in-109
unfolding keywords_with spellings
returns-in-109 c = record { in_table = (omega arith, omega arith); all_with = ap keywords_with c.in-109.is ∙ refl }

pub returns-in-110 : goal.returns-in-110
unfolding keywords_with spellings
returns-in-110 c = record { in_table = (omega arith, omega arith); all_with = ap keywords_with c.in-110.is ∙ refl }

pub returns-in-111 : goal.returns-in-111
unfolding keywords_with spellings
returns-in-111 c = record { in_table = (omega arith, omega arith); all_with = ap keywords_with c.in-111.is ∙ refl }

pub returns-in-112 : goal.returns-in-112
unfolding keywords_with spellings
returns-in-112 c = record { in_table = (omega arith, omega arith); all_with = ap keywords_with c.in-112.is ∙ refl }

pub returns-in-114 : goal.returns-in-114
unfolding keywords_with spellings
returns-in-114 c = record { in_table = (omega arith, omega arith); all_with = ap keywords_with c.in-114.is ∙ refl }

pub returns-in-115 : goal.returns-in-115
unfolding keywords_with spellings
returns-in-115 c = record { in_table = (omega arith, omega arith); all_with = ap keywords_with c.in-115.is ∙ refl }

pub returns-in-116 : goal.returns-in-116
unfolding keywords_with spellings
returns-in-116 c = record { in_table = (omega arith, omega arith); all_with = ap keywords_with c.in-116.is ∙ refl }

pub returns-in-117 : goal.returns-in-117
unfolding keywords_with spellings
returns-in-117 c = record { in_table = (omega arith, omega arith); all_with = ap keywords_with c.in-117.is ∙ refl }

pub returns-in-118 : goal.returns-in-118
unfolding keywords_with spellings
returns-in-118 c = record { in_table = (omega arith, omega arith); all_with = ap keywords_with c.in-118.is ∙ refl }

pub returns-in-119 : goal.returns-in-119
unfolding keywords_with spellings
returns-in-119 c = record { in_table = (omega arith, omega arith); all_with = ap keywords_with c.in-119.is ∙ refl }

pub returns-in-120 : goal.returns-in-120
unfolding keywords_with spellings
returns-in-120 c = record { in_table = (omega arith, omega arith); all_with = ap keywords_with c.in-120.is ∙ refl }

pub returns-in_default : goal.returns-in_default
returns-in_default c = record { in_table = (omega arith, omega arith); all_with = no_keyword_with c.args.letter (grind (arith, nat_tests)) }
