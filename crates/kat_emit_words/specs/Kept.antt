-- Used inside only.
-- The words that the languages keep: the tables of the code, by what is named.
use Rattle.std.specs.Prelude.{ℕ, List, ◌++◌, map}
use Rattle.kat_emit_words.specs.declared.languages.Language.{Language}
use Rattle.kat_emit_words.specs.declared.languages.Language.TheVariants.{TypeScript as typescript, JavaScript as javascript, Python as python, Rust as rust, Go as go}
use Rattle.kat_emit_words.specs.declared.languages.Family.{Family}
use Rattle.kat_emit_words.specs.declared.languages.Family.TheVariants.{TypeScript, Python, Rust, Go}
use Rattle.kat_emit_words.specs.declared.kept.Named.{Named}
use Rattle.kat_emit_words.specs.declared.kept.Named.TheVariants.{Class, Value, Tool, Field, Method, Leaf, Change, Local, Loop}
use Rattle.kat_emit_words.specs.declared.kept.Table.{Table}
use Rattle.kat_emit_words.specs.declared.kept.Table.TheVariants.{Keywords, Locals, Fields, Members, Globals, Leaves, Changes, Loops}
use Rattle.kat_emit_words.specs.declared.typescript.TheConstants.{KEYWORDS as typescript_keywords, LOCALS as typescript_locals, FIELDS as typescript_fields, MEMBERS as typescript_members, GLOBALS as typescript_globals, LEAVES as typescript_leaves, CHANGES as typescript_changes, LOOPS as typescript_loops}
use Rattle.kat_emit_words.specs.declared.python.TheConstants.{KEYWORDS as python_keywords, LOCALS as python_locals, FIELDS as python_fields, MEMBERS as python_members, GLOBALS as python_globals, LEAVES as python_leaves, CHANGES as python_changes, LOOPS as python_loops}
use Rattle.kat_emit_words.specs.declared.rust.TheConstants.{KEYWORDS as rust_keywords, LOCALS as rust_locals, FIELDS as rust_fields, MEMBERS as rust_members, GLOBALS as rust_globals, LEAVES as rust_leaves, CHANGES as rust_changes, LOOPS as rust_loops}
use Rattle.kat_emit_words.specs.declared.go.TheConstants.{KEYWORDS as go_keywords, LOCALS as go_locals, FIELDS as go_fields, MEMBERS as go_members, GLOBALS as go_globals, LEAVES as go_leaves, CHANGES as go_changes, LOOPS as go_loops}

-- languages with the same forms
abbrev pub family_of : Language → Family
family_of typescript = TypeScript
family_of javascript = TypeScript
family_of python = Python
family_of rust = Rust
family_of go = Go

abbrev pub table_words : Family → Table → List (List ℕ)
table_words TypeScript Keywords = map (λ word. word.now) typescript_keywords.now
table_words TypeScript Locals = map (λ word. word.now) typescript_locals.now
table_words TypeScript Fields = map (λ word. word.now) typescript_fields.now
table_words TypeScript Members = map (λ word. word.now) typescript_members.now
table_words TypeScript Globals = map (λ word. word.now) typescript_globals.now
table_words TypeScript Leaves = map (λ word. word.now) typescript_leaves.now
table_words TypeScript Changes = map (λ word. word.now) typescript_changes.now
table_words TypeScript Loops = map (λ word. word.now) typescript_loops.now
table_words Python Keywords = map (λ word. word.now) python_keywords.now
table_words Python Locals = map (λ word. word.now) python_locals.now
table_words Python Fields = map (λ word. word.now) python_fields.now
table_words Python Members = map (λ word. word.now) python_members.now
table_words Python Globals = map (λ word. word.now) python_globals.now
table_words Python Leaves = map (λ word. word.now) python_leaves.now
table_words Python Changes = map (λ word. word.now) python_changes.now
table_words Python Loops = map (λ word. word.now) python_loops.now
table_words Rust Keywords = map (λ word. word.now) rust_keywords.now
table_words Rust Locals = map (λ word. word.now) rust_locals.now
table_words Rust Fields = map (λ word. word.now) rust_fields.now
table_words Rust Members = map (λ word. word.now) rust_members.now
table_words Rust Globals = map (λ word. word.now) rust_globals.now
table_words Rust Leaves = map (λ word. word.now) rust_leaves.now
table_words Rust Changes = map (λ word. word.now) rust_changes.now
table_words Rust Loops = map (λ word. word.now) rust_loops.now
table_words Go Keywords = map (λ word. word.now) go_keywords.now
table_words Go Locals = map (λ word. word.now) go_locals.now
table_words Go Fields = map (λ word. word.now) go_fields.now
table_words Go Members = map (λ word. word.now) go_members.now
table_words Go Globals = map (λ word. word.now) go_globals.now
table_words Go Leaves = map (λ word. word.now) go_leaves.now
table_words Go Changes = map (λ word. word.now) go_changes.now
table_words Go Loops = map (λ word. word.now) go_loops.now

-- what is kept for what is named, beside the keywords
abbrev pub kept_there : Family → Named → List (List ℕ)
kept_there family Class = table_words family Globals
kept_there family Value = table_words family Globals
kept_there family Tool = table_words family Globals
kept_there family Field = table_words family Locals ++ table_words family Fields
kept_there family Method = table_words family Members
kept_there family Leaf = table_words family Leaves
kept_there family Change = table_words family Changes
kept_there family Loop = table_words family Loops
kept_there family Local = table_words family Locals ++ table_words family Globals

abbrev pub kept : Language → Named → List (List ℕ)
kept language named = table_words (family_of language) Keywords ++ kept_there (family_of language) named
