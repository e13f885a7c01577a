-- What the engine did for an entry.
use Rattle.std.specs.Prelude.{◌≡◌, ℕ, ◌⊎◌, Bool, Option, Some, None, IsTrue}
use Rattle.serial_order.specs.Serial.{Meaning}
use Rattle.engine_core.specs.Causes.{Rose}
use Rattle.engine_core.specs.Engine.{HasRunAlone, HasRunIn}
use Rattle.engine_core.specs.Transactions.{Lives, SameLive, Became, Committed}
use Rattle.engine_core.specs.Journal.{fault_of}
use Rattle.engine_core.specs.declared.statement.BoundStmt.{BoundStmt}
use Rattle.engine_core.specs.declared.entries.Answer.{Answer}
use Rattle.engine_core.specs.declared.entries.Answer.TheVariants.{Gave, Refused}
use Rattle.engine_core.specs.declared.entries.How.TheVariants.{Committed as committed}
use Rattle.engine_core.specs.declared.entries.Entry.{Entry}
use Rattle.engine_core.specs.declared.entries.Entry.TheVariants as entry

-- neither the committed database nor a transaction changed
pub record IsSame {D : Type 0} (db : D) (live : Lives D) (db' : D) (live' : Lives D) : Type 0 where
  pub database : db' ≡ db
  pub lives : SameLive live live'

-- a unit began, on the committed database
pub record HasBegun {D : Type 0} (db : D) (live : Lives D) (db' : D) (live' : Lives D) (unit : ℕ) (is_writer : Bool) : Type 0 where
  pub database : db' ≡ db
  pub lives : Became live live' unit (Some (record { start = db; view = db; is_writer = is_writer }))

-- a unit is gone, and left nothing
pub record IsGone {D : Type 0} (db : D) (live : Lives D) (db' : D) (live' : Lives D) (unit : ℕ) : Type 0 where
  pub database : db' ≡ db
  pub lives : Became live live' unit None

-- a statement ran in a unit
pub record RanIn {D : Type 0} (told : Bool) (m : Meaning D BoundStmt Answer) (db : D) (live : Lives D) (db' : D) (live' : Lives D) (unit : ℕ) (stmt : BoundStmt) (given : Answer) : Type 0 where
  pub database : db' ≡ db
  pub lives : HasRunIn told m live live' unit stmt given

-- a statement ran alone
pub record RanAlone {D : Type 0} (told : Bool) (m : Meaning D BoundStmt Answer) (db : D) (live : Lives D) (db' : D) (live' : Lives D) (stmt : BoundStmt) (given : Answer) : Type 0 where
  pub database : HasRunAlone told m db db' stmt given
  pub lives : SameLive live live'

-- `writes` says of a unit that began whether it is to write
abbrev pub Effect : {D : Type 0} → Bool → Meaning D BoundStmt Answer → Bool → D → Lives D → D → Lives D → Entry → Type 0
Effect told m writes db live db' live' (entry.Alone stream stmt given wrote) = RanAlone told m db live db' live' stmt given
Effect told m writes db live db' live' (entry.Began unit stream) = HasBegun db live db' live' unit writes
Effect told m writes db live db' live' (entry.Ran unit stmt given) = RanIn told m db live db' live' unit stmt given
Effect told m writes db live db' live' (entry.Denied unit deny) = IsSame db live db' live'
Effect told m writes db live db' live' (entry.Ended unit committed) = Committed live db' live' unit
Effect told m writes db live db' live' (entry.Ended unit how) = IsGone db live db' live' unit
Effect told m writes db live db' live' (entry.Failed stream None cause) = IsSame db live db' live'
Effect told m writes db live db' live' (entry.Failed stream (Some unit) cause) = IsGone db live db' live' unit

abbrev pub Effects : {D : Type 0} → Bool → Meaning D BoundStmt Answer → Bool → D → Lives D → D → Lives D → Option Entry → Type 0
Effects told m writes db live db' live' None = IsSame db live db' live'
Effects told m writes db live db' live' (Some e) = Effect told m writes db live db' live' e

-- the faults that an entry notes
abbrev pub faults_by : Option Entry → ℕ
faults_by None = 0
faults_by (Some e) = fault_of e

-- an engine that doesn't tell its tables refuses only where its count rose
abbrev pub RefusalHasCause : Bool → ℕ → ℕ → Answer → Type 0
RefusalHasCause told before now (Gave given) = Unit {0}
RefusalHasCause told before now (Refused code) = IsTrue told ⊎ Rose before now

abbrev pub RefusesByCause : Bool → ℕ → ℕ → Option Entry → Type 0
RefusesByCause told before now (Some (entry.Alone stream stmt given wrote)) = RefusalHasCause told before now given
RefusesByCause told before now (Some (entry.Ran unit stmt given)) = RefusalHasCause told before now given
RefusesByCause told before now added = Unit {0}
