use Rattle.mg_store.proofs.Polling as polling
use Rattle.mg_store.proofs.link.poll_over.Goals as goal

pub returns-clause-honest : goal.returns-clause-honest
returns-clause-honest c = polling.honest_polled _ _ _ _ _ _ _ _ c.requires.out c.requires.honest c.poll_at.ensures

pub returns-clause-polls : goal.returns-clause-polls
returns-clause-polls c = polling.means_polled _ _ _ _ _ _ _ c.requires.out c.poll_at.ensures

pub returns-clause-fault : goal.returns-clause-fault
returns-clause-fault c failed = polling.fault_polled _ _ _ _ _ _ _ c.requires.out c.poll_at.ensures failed

pub returns-clause-at_once : goal.returns-clause-at_once
returns-clause-at_once c prompt = polling.at_once_polled _ _ _ _ _ _ _ c.requires.out c.requires.honest prompt _ c.poll_at.ensures

pub returns-clause-pended : goal.returns-clause-pended
returns-clause-pended c = polling.pends_polled _ _ _ _ _ _ _ c.poll_at.ensures

pub returns-clause-counts : goal.returns-clause-counts
returns-clause-counts c = polling.pended_polled _ _ _ _ _ _ _ c.poll_at.ensures

pub returns-clause-faults_later : goal.returns-clause-faults_later
returns-clause-faults_later c = polling.faults_later _ _ _ _ _ _ _ c.requires.out c.poll_at.ensures

pub returns-clause-pends_later : goal.returns-clause-pends_later
returns-clause-pends_later c = polling.pends_later _ _ _ _ _ _ _ c.poll_at.ensures

pub returns-clause-prompt : goal.returns-clause-prompt
returns-clause-prompt c prompt = polling.stays_polled _ _ _ _ _ _ _ c.requires.out c.requires.honest prompt _ c.poll_at.ensures
