use Rattle.kat_audit.proofs.auditing.audit.Goals as goal

pub audit_listing-requires-clause-listed : goal.audit_listing-requires-clause-listed
audit_listing-requires-clause-listed c = c.in_ok-listing.ensures.listed

pub audit_listing-requires-clause-none : goal.audit_listing-requires-clause-none
audit_listing-requires-clause-none c = c.in_ok-listing.ensures.none
