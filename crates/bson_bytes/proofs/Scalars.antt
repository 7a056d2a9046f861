-- What is read of a value by its type.
use Rattle.std.proofs.Common.{◌≡◌, ℕ, ◌+◌, Bool, true, false, cond, eqb, List, length, Result, Ok, Err, None, refl, sym, ap, ◌∙◌, subst}
use Rattle.bson_types.specs.declared.spec.ElementType.{ElementType}
use Rattle.bson_types.specs.declared.spec.ElementType.TheVariants as tag
use Rattle.bson_model.specs.Value.{Value, no_pairs, code_scope, document, array}
use Rattle.bson_bytes.specs.declared.fault.Fault.{Fault}
use Rattle.bson_bytes.specs.declared.fault.FaultKind.TheVariants.{Length}
use Rattle.bson_model.specs.declared.options.DuplicateKeys.TheVariants.{LastWins}
use Rattle.bson_bytes.specs.Fault.{fault_at, ◌>>=◌}
use Rattle.bson_bytes.specs.Reading.{read_value_in, read_document_in, read_code_with_scope, read_length, read_string, insert_pairs_read, map_pairs_read}
use Rattle.bson_bytes.specs.Grammar.{pair_values}
use Rattle.bson_bytes.specs.NestedValues.{IsNested, is_nested_type}
use Rattle.bson_bytes.specs.ReadElements.{without_rest}
use Rattle.bson_bytes.proofs.PartLaws.{bind_ok, if_ok, ok_is}
use Rattle.bson_bytes.proofs.Skips.{first_is, made}

bound_nested : {A : Type 0} (r : Result (A × List ℕ) Fault) (f : A → Value) → ((x : A) → IsNested (f x)) → (v : Value) (rest : List ℕ)
    → made f r ≡ Ok (v, rest) → IsNested v
bound_nested (Ok x) f h v rest e = subst IsNested (first_is (f x.0) x.1 v rest e) (h x.0)
bound_nested (Err d) f h v rest e = absurd cc

scope_nested : (d : ℕ) (bytes : List ℕ) (v : Value) (rest : List ℕ) → read_code_with_scope (read_document_in LastWins d None) bytes ≡ Ok (v, rest)
    → IsNested v
unfolding read_code_with_scope
scope_nested d bytes v rest e =
    let b = bind_ok (read_length bytes) (λ n. read_string n.1 >>= λ s. insert_pairs_read no_pairs (read_document_in LastWins d None s.1) >>= λ x. cond (eqb (n.0 + length x.1) (length bytes)) (Ok (code_scope s.0 x.0, x.1)) (Err (fault_at Length bytes))) (v, rest) e in
    let s = bind_ok (read_string b.0.1) (λ s. insert_pairs_read no_pairs (read_document_in LastWins d None s.1) >>= λ x. cond (eqb (b.0.0 + length x.1) (length bytes)) (Ok (code_scope s.0 x.0, x.1)) (Err (fault_at Length bytes))) (v, rest) b.2 in
    let x = bind_ok (insert_pairs_read no_pairs (read_document_in LastWins d None s.0.1)) (λ x. cond (eqb (b.0.0 + length x.1) (length bytes)) (Ok (code_scope s.0.0 x.0, x.1)) (Err (fault_at Length bytes))) (v, rest) s.2 in
    let g = if_ok (eqb (b.0.0 + length x.0.1) (length bytes)) (Ok (code_scope s.0.0 x.0.0, x.0.1)) (fault_at Length bytes) (v, rest) x.2 in
    subst IsNested (first_is (code_scope s.0.0 x.0.0) x.0.1 v rest g.1) tt

nested_read : (d : ℕ) (k : ElementType) (bytes : List ℕ) (v : Value) (rest : List ℕ) → is_nested_type k ≡ true
    → read_value_in LastWins (read_document_in LastWins d) k bytes ≡ Ok (v, rest) → IsNested v
unfolding read_value_in
nested_read d tag.EmbeddedDocument bytes v rest n e =
    bound_nested (insert_pairs_read no_pairs (read_document_in LastWins d None bytes)) document (λ x. tt) v rest e
nested_read d tag.Array bytes v rest n e = bound_nested (map_pairs_read pair_values (read_document_in LastWins d None bytes)) array (λ x. tt) v rest e
nested_read d tag.JavaScriptCodeWithScope bytes v rest n e = scope_nested d bytes v rest e
nested_read d k bytes v rest n e = absurd cc

pub scalar_is : (b : Bool) (w v : Value) (read : Result Value Fault) → (b ≡ false → read ≡ Ok w) → (b ≡ true → ⊥) → read ≡ Ok v
    → w ≡ v
scalar_is true w v read h g e = absurd (g refl)
scalar_is false w v read h g e = ok_is w v (sym (h refl) ∙ e)

none_by : (b : Bool) (d : ℕ) (k : ElementType) (bytes : List ℕ) (v : Value) (rest : List ℕ) (f : Fault) → is_nested_type k ≡ b
    → (is_nested_type k ≡ false → without_rest (read_value_in LastWins (read_document_in LastWins d) k bytes) ≡ Err f)
    → read_value_in LastWins (read_document_in LastWins d) k bytes ≡ Ok (v, rest) → IsNested v
none_by true d k bytes v rest f is h e = nested_read d k bytes v rest is e
none_by false d k bytes v rest f is h e =
    let bad = h is in
    let good = ap without_rest e in absurd cc

pub scalar_none : (d : ℕ) (k : ElementType) (bytes : List ℕ) (v : Value) (rest : List ℕ) (f : Fault)
    → (is_nested_type k ≡ false → without_rest (read_value_in LastWins (read_document_in LastWins d) k bytes) ≡ Err f)
    → read_value_in LastWins (read_document_in LastWins d) k bytes ≡ Ok (v, rest) → IsNested v
scalar_none d k bytes v rest f h e = none_by (is_nested_type k) d k bytes v rest f refl h e
