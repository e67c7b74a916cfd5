-- Where the form comes from that is cited so, by look-ups of names. `Kept` says the other way round
-- how a form is cited that comes from there.
use Rattle.std.specs.Prelude.{ℕ, List, Option, Some}
use Rattle.std.specs.Option.{option_map}
use Rattle.text_core.specs.Names.{Text}
use Rattle.text_core.specs.Numbered.{Tables}
use Rattle.signature.specs.Numbers.{found_symbol}
use Rattle.signature.specs.Columns.{found_name}
use Rattle.coherent_form.specs.declared.citation.Symbol as Cited
use Rattle.coherent_form.specs.declared.citation.Symbol.TheVariants as cited
use Rattle.coherent_form.specs.declared.citation.Citation.{Citation}
use Rattle.coherent_form.specs.declared.citation.Citation.TheVariants as cite
use Rattle.coherent_form.specs.declared.source.BuiltIn.TheVariants.{Refl, Sym, Trans, Sub, No, Or}
use Rattle.coherent_form.specs.declared.source.Source as source
use Rattle.coherent_form.specs.declared.source.Source.TheVariants.{Formula, BuiltIn}

-- the number of the symbol that is cited so
abbrev pub symbol_cited : Tables → Cited.Symbol → Option ℕ
symbol_cited tables cited.Equality = Some 0
symbol_cited tables (cited.Named name arity) = found_symbol tables.symbols name arity

-- where the form comes from that is cited so
abbrev pub source_cited : List Text → Tables → Citation → Option source.Source
source_cited names tables (cite.Axiom name rank) =
    option_map (λ n. Formula n rank) (found_name names name)
source_cited names tables cite.Refl = Some (BuiltIn Refl)
source_cited names tables cite.Sym = Some (BuiltIn Sym)
source_cited names tables cite.Trans = Some (BuiltIn Trans)
source_cited names tables (cite.Sub positive symbol place) =
    option_map (λ n. BuiltIn (Sub positive n place)) (symbol_cited tables symbol)
source_cited names tables (cite.No symbol) =
    option_map (λ n. BuiltIn (No n)) (symbol_cited tables symbol)
source_cited names tables (cite.Or symbol) =
    option_map (λ n. BuiltIn (Or n)) (symbol_cited tables symbol)
