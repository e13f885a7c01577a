-- What is written of statements and results reads back.
use Rattle.std.proofs.Common.{◌≡◌, ℕ, List, [], ◌∷◌, length, Option, None, Some, ℤ, refl}
use Rattle.serde.specs.Event.{Log, Logs, field_key}
use Rattle.serde.specs.declared.name.Case.TheVariants.{AsIs}
use Rattle.serde_json.specs.Events.{SendsValue}
use Rattle.hrana_value.specs.Sent.{SendsFront}
use Rattle.serde_json.specs.Data.{Data, number, unsigned}
use Rattle.hrana_value.specs.Whole.{IsWhole}
use Rattle.hrana_value.proofs.NoFloats.{neither}
use Rattle.hrana_stmt.specs.declared.results.StmtResult.{StmtResult}
use Rattle.hrana_stmt.specs.Written.{cols_data, rows_data, rowid_data, result_data, member_unless, is_empty}

whole_rowid : (o : Option ℤ) → IsWhole (rowid_data o)
whole_rowid None = record { no_float = refl; numbers = tt; in_order = refl }
whole_rowid (Some z) = record { no_float = refl; numbers = tt; in_order = refl }

pub whole_result : (r : StmtResult) → IsWhole (number (unsigned r.affected)) → IsWhole (cols_data r.cols) → IsWhole (rows_data r.rows) → IsWhole (result_data r)
whole_result r affected cols rows =
    let rowid = whole_rowid r.last_rowid in
    record {
      no_float = neither _ _ affected.no_float (neither _ _ cols.no_float (neither _ _ rowid.no_float (neither _ _ rows.no_float refl)));
      numbers = (affected.numbers, (cols.numbers, (rowid.numbers, (rows.numbers, tt))));
      in_order = rw (affected.in_order, cols.in_order, rowid.in_order, rows.in_order) refl;
    }

-- ---- members that may be left out

pub front_given : {A : Type 0} (xs : List A) (name : List ℕ) (d : Data) (old named new : Log) → (length xs ≡ 0 → ⊥) → Logs old named (field_key name AsIs) → SendsValue d named new
    → SendsFront (member_unless (is_empty xs) name d) old new
front_given [] name d old named new given key sent = absurd (given refl)
front_given (x ∷ xs) name d old named new given key sent = λ rest end more. (named, new, key, sent, more)
