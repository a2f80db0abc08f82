-- Repetitions in the grammar: { x } and x { ',' x }.
use Rattle.std.specs.Prelude.{List, [], ◌∷◌}
use Rattle.st_tokens.specs.declared.symbol.Symbol.TheVariants as symbols
use Rattle.st_tokens.specs.declared.token.Kind.TheVariants as token_kinds
use Rattle.st_parser.specs.Names.{Position}
use Rattle.st_parser.specs.Grammar.Tokens.{Tok}

-- { x }
pub data IsMany {A : Type 0} (R : List Tok → A → List Tok → Type 0) : List Tok → List A → List Tok → Type 0 where
  none : {ts : List Tok} → IsMany R ts [] ts
  more : {ts mid rest : List Tok} {x : A} {xs : List A} → R ts x mid → IsMany R mid xs rest → IsMany R ts (x ∷ xs) rest

-- ',' x
pub data IsNext {A : Type 0} (R : List Tok → A → List Tok → Type 0) : List Tok → A → List Tok → Type 0 where
  comma : {p : Position} {ts rest : List Tok} {x : A} → R ts x rest → IsNext R ((p, token_kinds.Symbol symbols.Comma) ∷ ts) x rest

-- x { ',' x }
pub data IsListed {A : Type 0} (R : List Tok → A → List Tok → Type 0) : List Tok → List A → List Tok → Type 0 where
  listed : {ts mid rest : List Tok} {x : A} {xs : List A} → R ts x mid → IsMany (IsNext R) mid xs rest
      → IsListed R ts (x ∷ xs) rest
