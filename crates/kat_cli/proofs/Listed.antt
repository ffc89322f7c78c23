-- How `list` is refused, and how it ends.
use Rattle.std.proofs.Common.{◌≡◌, ℕ, ◌≤◌, inl, inr, List, [], ◌∷◌, refl, length, nat_lt, arith}
use Rattle.std.proofs.lemmas.Bool.{cond_both}
use Rattle.kat_design.specs.Designs.{DesignForm}
use Rattle.kat_design.specs.Faults.{faults_of}
use Rattle.kat_design.specs.Sorted.{EachHas}
use Rattle.kat_design.proofs.Converse.{no_faults}
use Rattle.kat_rules.specs.Listed.{IsListing, setting_of}
use Rattle.kat_rules.specs.declared.kind_sets.Kinds.{Kinds}
use Rattle.kat_gram.proofs.AllListed.{has_listing}
use Rattle.kat_rules.proofs.Passing.{sorted_small}
use Rattle.kat_walk.specs.Machines.{IsOneOf}
use Rattle.kat_type_file.specs.TypeFiles.{TellsFileRefusal}
use Rattle.kat_type.specs.Types.{TypeForm}
use Rattle.kat_type_file.proofs.Limiting.{file_sorted}
use Rattle.kat_type.specs.declared.errors.TypeError.{TypeError}
use Rattle.kat_type.specs.declared.errors.TypeError.TheVariants as type_file
use Rattle.kat_cli.specs.Ending.{Judges, OutputSeen}
use Rattle.kat_cli.specs.ListCommand.{Accepts, Ends, end_of, output}
use Rattle.kat_cli.specs.Listing.{ArePassed}
use Rattle.kat_cli.specs.Outcome.{IsEnd}
use Rattle.kat_cli.specs.Refusals.{type_status}
use Rattle.kat_words.specs.declared.options.ListOptions.{ListOptions}
use Rattle.kat_words.specs.Words.{IsListInRange}
use Rattle.kat_cli.specs.declared.status.Status.{Status}
use Rattle.kat_cli.specs.declared.status.Status.TheVariants.{Done, Stopped}
use Rattle.kat_words.specs.declared.words.Command.TheVariants as command

-- a type file that isn't read
pub type_refused : (options : ListOptions) (text : List ℕ) (seen : OutputSeen) (error : TypeError) → TellsFileRefusal text error → seen.written_after ≡ seen.written
    → Judges (command.List options) (text ∷ []) seen (type_status 0 error)
type_refused options text seen (type_file.Refused number at) tells same = (inl (type_file.Refused number at, tells, refl), same)
type_refused options text seen type_file.Memory tells same = inl same

-- the command ends by itself
pub is_end : (most : ℕ) (designs : List DesignForm) → IsEnd (end_of most designs)
is_end most designs = cond_both (nat_lt most (length designs)) Stopped Done IsEnd (λ e. tt) (λ e. tt)

-- what holds of each design of a list
each_one : {A : Type 0} (P : A → Type 0) (xs : List A) → ((x : A) → IsOneOf x xs → P x) → EachHas P xs
each_one P [] each = tt
each_one P (x ∷ xs) each = (each x (inl refl), each_one P xs (λ y one. each y (inr one)))

pub all_passed : (ty : TypeForm) (n : ℕ) (kinds : Kinds) (designs : List DesignForm) → n ≤ 24 → IsListing ty n kinds designs → ArePassed designs
all_passed ty n kinds designs small listing =
    each_one (λ (d : DesignForm). faults_of d ≡ []) designs
    (λ d one. let is = (listing.exactly d).0 one in no_faults d (sorted_small (setting_of ty kinds) d is.rules (omega (arith, is.small, small))))

pub ended_listing : (options : ListOptions) (texts : List (List ℕ)) (ty : TypeForm) → IsListInRange options → Accepts texts ty
    → (status : Status) × (text : List ℕ) × IsEnd status × Ends options ty status text
ended_listing options (text ∷ []) ty ranges is =
    let listing = has_listing ty options.size options.kinds (file_sorted text ty is) ranges.small_size in
    (end_of options.designs listing.0, output options.designs listing.0, is_end options.designs listing.0, (listing.0, listing.1, refl, refl))
ended_listing options [] ty ranges is = absurd is
ended_listing options (text ∷ other ∷ texts) ty ranges is = absurd is
