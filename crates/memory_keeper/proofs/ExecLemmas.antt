-- Lemmas on the tables of a database.
use Rattle.std.proofs.Common.{◌≡◌, ℕ, ◌<◌, List, [], ◌∷◌, length, get_or, set, Some, Result, Ok, Err, refl, sym, ap, subst, ◌∙◌, suc, zero, arith}
use Rattle.std.specs.Prelude.{slice_get}
use Rattle.std.proofs.lemmas.Option.{slice_get_read}
use Rattle.keeper_formulas.specs.declared.fail.Refusal.{Refusal}
use Rattle.hrana_stmt.specs.declared.results.StmtResult.{StmtResult}
use Rattle.keeper_formulas.specs.declared.fail.Fail.{Fail}
use Rattle.keeper_formulas.specs.declared.fail.Fail.TheVariants.{Refused, NoMemory}
use Rattle.memory_keeper.specs.declared.tables.Table.{Table}
use Rattle.keeper_formulas.specs.Each.{and_then, map_ok, Gives, Changes}
use Rattle.memory_keeper.specs.Exec.{table_of, on_table}

-- a table that is put back as it was
set_same : (db : List Table) (place : ℕ) (table new : Table) → place < length db → table ≡ get_or db place table → new ≡ table → set db place new ≡ db
set_same [] place table new h is e = absurd (omega arith)
set_same (t ∷ db) zero table new h is e = ap (λ x. x ∷ db) (e ∙ is)
set_same (t ∷ db) (suc place) table new h is e = ap (λ l. t ∷ l) (set_same db place table new (omega arith) is e)

changes_at : (db : List Table) (place : ℕ) (table new : Table) (made : Result (Table × StmtResult) Refusal) (r : Result StmtResult Fail) → place < length db → table ≡ get_or db place table → Changes made table r new → Changes (map_ok (λ (m : Table × StmtResult). (set db place m.0, m.1)) made) db r (set db place new)
changes_at db place table new made (Ok x) h is p = ap (map_ok (λ (m : Table × StmtResult). (set db place m.0, m.1))) p
changes_at db place table new made (Err (Refused refusal)) h is p = (ap (map_ok (λ (m : Table × StmtResult). (set db place m.0, m.1))) p.0, set_same db place table new h is p.1)
changes_at db place table new made (Err NoMemory) h is p = (tt, set_same db place table new h is p.1)

-- a call on the table of a name, in its place
pub changes_on_table : (db : List Table) (name : List ℕ) (place : ℕ) (table new : Table) (change : Table → Result (Table × StmtResult) Refusal) (r : Result StmtResult Fail) → ((t : Table) → slice_get db place ≡ Some t → table_of db name ≡ Ok (place, t)) → place < length db → table ≡ get_or db place table → Changes (change table) table r new → Changes (on_table db name change) db r (set db place new)
changes_on_table db name place table new change r found h is p =
    let e : table_of db name ≡ Ok (place, table) = found table (slice_get_read db (length db) place table refl h is) in
    let whole : on_table db name change ≡ map_ok (λ (m : Table × StmtResult). (set db place m.0, m.1)) (change table) = ap (λ r. and_then r (λ (found : ℕ × Table). map_ok (λ (m : Table × StmtResult). (set db found.0 m.0, m.1)) (change found.1))) e in
    subst (λ meant. Changes meant db r (set db place new)) (sym whole) (changes_at db place table new (change table) r h is p)

-- a call that reads the table of a name
pub gives_on_table : {A : Type 0} (db : List Table) (name : List ℕ) (place : ℕ) (table : Table) (read : Table → Result A Refusal) (r : Result A Fail) → ((t : Table) → slice_get db place ≡ Some t → table_of db name ≡ Ok (place, t)) → place < length db → table ≡ get_or db place table → Gives (read table) r → Gives (and_then (table_of db name) (λ (found : ℕ × Table). read found.1)) r
gives_on_table db name place table read r found h is p =
    let e : table_of db name ≡ Ok (place, table) = found table (slice_get_read db (length db) place table refl h is) in
    let whole : and_then (table_of db name) (λ (found : ℕ × Table). read found.1) ≡ read table = ap (λ r. and_then r (λ (found : ℕ × Table). read found.1)) e in
    subst (λ meant. Gives meant r) (sym whole) p
