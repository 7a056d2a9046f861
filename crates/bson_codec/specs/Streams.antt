-- How a document is read from a reader, and written to a writer.
use Rattle.std.specs.Prelude.{◌≡◌, ℕ, List, ◌++◌, Option, Result, Ok, Err, length, take, cond, nat_lt}
use Rattle.std.specs.Io.{StartsWith}
use Rattle.std.specs.Io.KnownBytes.{Appends, Consumes, Keeps}
use Rattle.bson_model.specs.Value.{Pairs}
use Rattle.bson_bytes.specs.declared.fault.Fault.{Fault}
use Rattle.bson_bytes.specs.Reading.{reads_bytes, read_length}
use Rattle.bson_bytes.specs.Writing.{document_bytes, FitsDocument}
use Rattle.bson_codec.specs.ReadErrors.{IsFaultAtOffset}
use Rattle.bson_codec.specs.WriteErrors.{IsWriteErrorFor}
use Rattle.bson_bytes.specs.declared.error.Error.TheVariants as errors
use Rattle.bson_codec.specs.declared.stream.ReaderError.{ReaderError}
use Rattle.bson_codec.specs.declared.stream.ReaderError.TheVariants as read_errors
use Rattle.bson_codec.specs.declared.stream.WriterError.{WriterError}
use Rattle.bson_codec.specs.declared.stream.WriterError.TheVariants as write_errors

-- a beginning of the bytes was written
pub record WritesPrefix (output_before output_after : Option (List ℕ)) (bytes : List ℕ) : Type 0 where
  pub beginning : List ℕ
  pub starts : StartsWith bytes beginning
  pub written : Appends output_before output_after beginning

-- ---- reading

-- the reader failed, or memory ran out
abbrev pub IsReaderOrMemoryFailure : ReaderError → Type 0
IsReaderOrMemoryFailure read_errors.CannotRead = Unit {0}
IsReaderOrMemoryFailure read_errors.OutOfMemory = Unit {0}
IsReaderOrMemoryFailure (read_errors.Malformed fault_kind offset) = ⊥

-- the error is that of the bytes that were read; or the reader failed, or memory ran out
abbrev pub IsReaderErrorFor : (depth : ℕ) → (input_before input_after : Option (List ℕ)) → ReaderError → Type 0
IsReaderErrorFor depth input_before input_after read_errors.CannotRead = Unit {0}
IsReaderErrorFor depth input_before input_after read_errors.OutOfMemory = Unit {0}
IsReaderErrorFor depth input_before input_after (read_errors.Malformed fault_kind offset) =
    (bytes : List ℕ) × Consumes input_before input_after bytes
    × IsFaultAtOffset fault_kind offset bytes (reads_bytes depth bytes)

-- ---- writing

-- the writer failed, or memory ran out
abbrev pub IsSystemFailure : WriterError → Type 0
IsSystemFailure write_errors.CannotWrite = Unit {0}
IsSystemFailure (write_errors.NoBytes error) = error ≡ errors.OutOfMemory

-- a document that has no bytes writes none; a writer that fails accepted a prefix
abbrev pub IsWriteFailure : WriterError → Pairs → (output_before output_after : Option (List ℕ)) → Type 0
IsWriteFailure (write_errors.NoBytes error) pairs output_before output_after = IsWriteErrorFor error pairs
    × Keeps output_before output_after
IsWriteFailure write_errors.CannotWrite pairs output_before output_after = FitsDocument pairs
    × WritesPrefix output_before output_after (document_bytes pairs)

-- ---- the front of bytes

-- the length, if it is more than the bytes have
abbrev pub larger_length : (count : ℕ) → Result (ℕ × List ℕ) Fault → ℕ
larger_length count (Ok length_and_rest) = cond (nat_lt length_and_rest.0 count) count length_and_rest.0
larger_length count (Err fault) = count

-- how many bytes the document has that begins with these, no fewer than they are
abbrev pub declared_length : (bytes : List ℕ) → ℕ
declared_length bytes = larger_length (length bytes) (read_length bytes)

-- as many bytes as the first four of them, a length, say; all bytes if there are fewer
abbrev pub declared_prefix : (bytes : List ℕ) → List ℕ
declared_prefix bytes = take (declared_length (take 4 bytes)) bytes

-- ---- for private clauses

-- the bytes that were read from the reader were added
abbrev pub BytesAdded : (input_before input_after : Option (List ℕ)) (old_bytes new_bytes : List ℕ) → Type 0
BytesAdded input_before input_after old_bytes new_bytes =
    (bytes_added : List ℕ) × (new_bytes ≡ old_bytes ++ bytes_added)
    × Consumes input_before input_after bytes_added
