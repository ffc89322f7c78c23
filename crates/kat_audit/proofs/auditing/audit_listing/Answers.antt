use Rattle.kat_audit.proofs.auditing.audit_listing.Goals as goal

pub audit_designs-requires-clause-of_type : goal.audit_designs-requires-clause-of_type
audit_designs-requires-clause-of_type c = c.in_ok-trials.ensures
