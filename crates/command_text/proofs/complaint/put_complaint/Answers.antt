-- `command_text::complaint::put_complaint` meets its contract. By what is wrong.
-- Assumes nothing.
use Rattle.text.proofs.Writing.{wrote_more}
use Rattle.command_text.specs.Complaints.{complaint_text}
use Rattle.command_text.proofs.complaint.put_complaint.Goals as goal

pub returns-in-Fault : goal.returns-in-Fault
unfolding complaint_text
returns-in-Fault c = rw (c.in-Err.is, c.in-Fault.is) (wrote_more (wrote_more c.put_begin-begun.ensures c.put_fault-told.ensures) c.put_end.ensures)

pub returns-in-ModeWanted : goal.returns-in-ModeWanted
unfolding complaint_text
returns-in-ModeWanted c = rw (c.in-Err.is, c.in-ModeWanted.is) (wrote_more (wrote_more c.put_begin-begun-in-ModeWanted.ensures c.put_bytes-told.ensures) c.put_end-in-ModeWanted.ensures)

pub returns-in-FilesWanted : goal.returns-in-FilesWanted
unfolding complaint_text
returns-in-FilesWanted c = rw (c.in-Err.is, c.in-FilesWanted.is) (wrote_more (wrote_more c.put_begin-begun-in-FilesWanted.ensures (rw c.files_wanted.ensures at c.put_bytes-told-in-FilesWanted.ensures)) c.put_end-in-FilesWanted.ensures)
