-- What holds of the file of a text.
use Rattle.std.proofs.Common.{List, [], ◌∷◌, ◌≡◌, ℕ, true, false, refl, ◌⊎◌, inl, inr, length, ◌≤◌, codes, arith, sym, subst, Option, Some, None, pos, Result, Ok, Err}
use Rattle.std.specs.Prelude.{◌==◌, ◌≢◌, IfOk}
use Rattle.std.proofs.lemmas.Bool.{eqb-false}
use Rattle.std.proofs.lemmas.List.Elements.{All-cons, All-nil}
use Rattle.kat_design.specs.Sorted.{EachHas}
use Rattle.kat_num.specs.Names.{code_of}
use Rattle.kat_lex.specs.Words.{is_reserved}
use Rattle.kat_design_json.specs.Signatures.{IsWordCode, IsSignature}
use Rattle.kat_json.specs.Words.{is_word}
use Rattle.kat_type.specs.Limits.{param_limit}
use Rattle.kat_type.specs.declared.signatures.OpSig.{OpSig}
use Rattle.kat_type.specs.declared.signatures.QuerySig.{QuerySig}
use Rattle.kat_wire.specs.Builtins.{builtin_design, builtin_of}
use Rattle.kat_wire.specs.declared.builtin.Builtin.{Builtin}
use Rattle.kat_design.specs.Faults.{faults_of}
use Rattle.kat_wire.specs.FileForms.{AreOfVersion, IsOfVersion, IsVersion, FileForm, HasNoZero, IsFileLine, IsFileLiteral, HaveNoZero, file_form}
use Rattle.kat_wire.specs.Files.{IsFile, IsFileOf, IsFileText}
use Rattle.kat_refute.specs.Lines.{hinted, Line, rup, linear}
use Rattle.kat_json.specs.declared.errors.WireError.{WireError}
use Rattle.kat_wire.specs.declared.files.DesignFile.{DesignFile}
use Rattle.kat_design.specs.Designs.{design_form}
use Rattle.kat_wire.specs.declared.builtin.Builtin.TheVariants as builtin

pub each_kept : {A : Type 0} (P Q : A → Type 0) → ((x : A) → P x → Q x) → (xs : List A) → EachHas P xs → EachHas Q xs
each_kept P Q keeps [] h = tt
each_kept P Q keeps (x ∷ xs) h = (keeps x h.0, each_kept P Q keeps xs h.1)

word_of : (text : List ℕ) → is_word text ≡ true → is_reserved (code_of text) ≡ false → IsWordCode (code_of text)
word_of text word free = record { text = text; is_word = word; free = free; coded = refl }

apart : (x y : ℕ) → (x == y) ≡ false → (x ≡ y) ⊎ ⊥ → ⊥
apart x y differ (inl same) = eqb-false x y differ same
apart x y differ (inr none) = none

builtin_signature : (b : Builtin) → IsSignature (builtin_design b).sig
builtin_signature builtin.Max = record {
  small = record {
    few_ops = omega arith;
    few_queries = omega arith;
    ops = All-cons (λ (op : OpSig). length op.sorts ≤ param_limit) _ [] (omega arith) (All-nil _);
    queries = All-cons (λ (q : QuerySig). length q.sorts ≤ param_limit) _ [] (omega arith) (All-nil _);
  };
  words = (word_of (codes "add") refl refl, (word_of (codes "get") refl refl, tt));
  different = (λ has. apart (code_of (codes "get")) (code_of (codes "add")) refl has, (λ has. has, tt));
}
builtin_signature builtin.Or = record {
  small = record {
    few_ops = omega arith;
    few_queries = omega arith;
    ops = All-cons (λ (op : OpSig). length op.sorts ≤ param_limit) _ [] (omega arith) (All-nil _);
    queries = All-cons (λ (q : QuerySig). length q.sorts ≤ param_limit) _ [] (omega arith) (All-nil _);
  };
  words = (word_of (codes "raise") refl refl, (word_of (codes "get") refl refl, tt));
  different = (λ has. apart (code_of (codes "get")) (code_of (codes "raise")) refl has, (λ has. has, tt));
}
builtin_signature builtin.Set = record {
  small = record {
    few_ops = omega arith;
    few_queries = omega arith;
    ops = All-cons (λ (op : OpSig). length op.sorts ≤ param_limit) _ [] (omega arith) (All-nil _);
    queries = All-cons (λ (q : QuerySig). length q.sorts ≤ param_limit) _ [] (omega arith) (All-nil _);
  };
  words = (word_of (codes "add") refl refl, (word_of (codes "has") refl refl, tt));
  different = (λ has. apart (code_of (codes "has")) (code_of (codes "add")) refl has, (λ has. has, tt));
}
builtin_signature builtin.Tally = record {
  small = record {
    few_ops = omega arith;
    few_queries = omega arith;
    ops = All-cons (λ (op : OpSig). length op.sorts ≤ param_limit) _ [] (omega arith) (All-nil _);
    queries = All-cons (λ (q : QuerySig). length q.sorts ≤ param_limit) _ [] (omega arith) (All-nil _);
  };
  words = (word_of (codes "add") refl refl, (word_of (codes "get") refl refl, tt));
  different = (λ has. apart (code_of (codes "get")) (code_of (codes "add")) refl has, (λ has. has, tt));
}

builtin_accepted : (b : Builtin) → faults_of (builtin_design b) ≡ []
builtin_accepted builtin.Max = refl
builtin_accepted builtin.Or = refl
builtin_accepted builtin.Set = refl
builtin_accepted builtin.Tally = refl

file_by : (o : Option Builtin) (bytes : List ℕ) (f : FileForm) → IsFileOf o bytes f → IsFile f
file_by (Some b) bytes f is = subst IsFile (sym is) (record { version = inl refl; signature = builtin_signature b; accepted = builtin_accepted b; indices = tt; lines = tt })
file_by None bytes f text = text.file

pub file_accepted : (bytes : List ℕ) (f : FileForm) → IsFileText bytes f → IsFile f
file_accepted bytes f is = file_by (builtin_of bytes) bytes f is

-- no literal of a file is 0
line_nonzero : (version : ℕ) (line : Line) → IsFileLine version line → HasNoZero line
line_nonzero version (rup literals) h = each_kept IsFileLiteral (λ z. z ≢ pos 0) (λ z is. is.nonzero) literals h.1
line_nonzero version (linear literals multipliers) h = each_kept IsFileLiteral (λ z. z ≢ pos 0) (λ z is. is.nonzero) literals h.0
line_nonzero version (hinted literals hints) h = each_kept IsFileLiteral (λ z. z ≢ pos 0) (λ z is. is.nonzero) literals h.1

file_nonzero : (f : FileForm) → IsFile f → HaveNoZero f.proof
file_nonzero f is =
    each_kept (EachHas (IsFileLine f.version)) (EachHas HasNoZero) (λ lines h. each_kept (IsFileLine f.version) HasNoZero (line_nonzero f.version) lines h) f.proof is.lines

-- each line of a file is of its version
line_versioned : (version : ℕ) (line : Line) → IsFileLine version line → IsOfVersion version line
line_versioned version (rup literals) h = h.0
line_versioned version (linear literals multipliers) h = tt
line_versioned version (hinted literals hints) h = h.0

file_versioned : (f : FileForm) → IsFile f → AreOfVersion f.version f.proof
file_versioned f is =
    each_kept (EachHas (IsFileLine f.version)) (EachHas (IsOfVersion f.version)) (λ lines h. each_kept (IsFileLine f.version) (IsOfVersion f.version) (line_versioned f.version) lines h) f.proof is.lines

-- what was read
pub read_signature : (r : Result DesignFile WireError) (bytes : List ℕ) → IfOk r (λ file. IsFileText bytes (file_form file)) → IfOk r (λ file. IsSignature file.design.sig)
read_signature (Ok x) bytes h = (file_accepted bytes (file_form x) h).signature
read_signature (Err e) bytes h = tt

pub read_accepted : (r : Result DesignFile WireError) (bytes : List ℕ) → IfOk r (λ file. IsFileText bytes (file_form file)) → IfOk r (λ file. faults_of (design_form file.design) ≡ [])
read_accepted (Ok x) bytes h = (file_accepted bytes (file_form x) h).accepted
read_accepted (Err e) bytes h = tt

pub read_nonzero : (r : Result DesignFile WireError) (bytes : List ℕ) → IfOk r (λ file. IsFileText bytes (file_form file)) → IfOk r (λ file. HaveNoZero (file_form file).proof)
read_nonzero (Ok x) bytes h = file_nonzero (file_form x) (file_accepted bytes (file_form x) h)
read_nonzero (Err e) bytes h = tt

pub read_version : (r : Result DesignFile WireError) (bytes : List ℕ) → IfOk r (λ file. IsFileText bytes (file_form file)) → IfOk r (λ file. IsVersion file.version)
read_version (Ok x) bytes h = (file_accepted bytes (file_form x) h).version
read_version (Err e) bytes h = tt

pub read_versioned : (r : Result DesignFile WireError) (bytes : List ℕ) → IfOk r (λ file. IsFileText bytes (file_form file)) → IfOk r (λ file. AreOfVersion file.version (file_form file).proof)
read_versioned (Ok x) bytes h = file_versioned (file_form x) (file_accepted bytes (file_form x) h)
read_versioned (Err e) bytes h = tt
