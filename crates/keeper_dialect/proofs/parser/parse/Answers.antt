use Rattle.std.proofs.Common.{◌≡◌, ◌∙◌, ℕ, List, Ok, Err, sym}
use Rattle.std.specs.Prelude.{Result, IfOk, IfErr}
use Rattle.keeper_dialect.specs.declared.query.Query.{Query}
use Rattle.keeper_dialect.specs.declared.query.DialectFail.{DialectFail}
use Rattle.keeper_dialect.specs.declared.query.DialectFail.TheVariants as fail
use Rattle.keeper_dialect.specs.Query.{query_of, AnswersAs}
use Rattle.keeper_dialect.specs.Grammar.{IsQueryOf, RefusesRightly}
use Rattle.keeper_dialect.specs.Stops.{StopsRightly}
use Rattle.keeper_dialect.proofs.ExactQueries.{query_of-sound, query_of-complete}
use Rattle.keeper_dialect.proofs.Stopping.{query_of-stops}
use Rattle.keeper_dialect.proofs.parser.parse.Goals as goal

reads_by : (sql : List ℕ) (r : Result Query DialectFail) → AnswersAs r (query_of sql) → IfOk r (λ q. IsQueryOf q sql)
reads_by sql (Ok q) is = query_of-sound sql q is
reads_by sql (Err e) is = tt

refuses_by : (sql : List ℕ) (r : Result Query DialectFail) → AnswersAs r (query_of sql) → IfErr r (RefusesRightly sql)
refuses_by sql (Ok q) is = tt
refuses_by sql (Err (fail.Syntax at)) is = λ q read. let wrong : Err at ≡ Ok q = sym is ∙ query_of-complete sql q read in cc wrong
refuses_by sql (Err fail.NoMemory) is = tt

stops_by : (sql : List ℕ) (r : Result Query DialectFail) → AnswersAs r (query_of sql) → IfErr r (StopsRightly sql)
stops_by sql (Ok q) is = tt
stops_by sql (Err (fail.Syntax at)) is = query_of-stops sql at is
stops_by sql (Err fail.NoMemory) is = tt

pub returns-clause-reads : goal.returns-clause-reads
returns-clause-reads c = reads_by c.args.sql.now c.read.result c.read.ensures

pub returns-clause-refuses : goal.returns-clause-refuses
returns-clause-refuses c = refuses_by c.args.sql.now c.read.result c.read.ensures

pub returns-clause-stops : goal.returns-clause-stops
returns-clause-stops c = stops_by c.args.sql.now c.read.result c.read.ensures
